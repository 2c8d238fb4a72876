-- What ties the definitions to code that walks an index. Assumes nothing.
use Prim.Native.Nat.{ℕ, ◌+◌, ◌-◌, ◌*◌, ◌<◌, ◌≤◌}
use mathlib.Core.Path.{◌≡◌, refl, sym, ap, ◌∙◌}
use mathlib.Core.Bool.{Bool, true, false, ◌&&◌}
use mathlib.Core.List.{List, [], ◌∷◌}
use native.Mathlib.Omega.{arith}
use lib.Dec.{leb, eqb}
use lib.ListN.{length, take, drop, length-take, length-drop, length-append}
use lib.Seq.{take_all}
use borrow.Author.Tests.{eqb-true, eqb-false, leb-true}
use Rattle.std.specs.Prelude.{Option, None}
use Rattle.std.specs.Bool.{then_some}
use Rattle.std.specs.Option.{option_and_then}
use Rattle.text.specs.Words.{Word, all, null, same, split, join, up_to, text_word}
use Rattle.text.proofs.Tests.{both}
use Rattle.text.proofs.Joined.{join-split}
use Rattle.text.proofs.Index.{split_at, after_here, after_end, drop_end, null-split}
use Rattle.shape.specs.Time.{time_fits, clock_hours, clock_fits, clock_of, clock_read, elapsed_hours, elapsed_fits, elapsed_of, elapsed_read}
use Rattle.shape.proofs.Times.{time_length}
use Rattle.aerodromes.specs.Aerodromes.{four_letters, joined, at_clock, at_elapsed, first, others}
use Rattle.aerodromes.specs.Field13.{clock_or_none, fits13open}
use Rattle.aerodromes.specs.Field16.{few_aerodromes, most_alternates, fits16plan}
use Rattle.aerodromes.specs.Field17.{unlisted, fits17}
use Rattle.aerodromes.specs.Asked.{clock_at, elapsed_at}
use Rattle.aerodromes.proofs.Aerodromes.{four_length}

-- a test that does not hold
not_so : (b : Bool) → (b ≡ true → ⊥) → b ≡ false
not_so true h = absurd (h refl)
not_so false h = refl

-- AN AERODROME AND A TIME

pub letters_short : (w : Word) → length w < 4 → four_letters (take 4 w) ≡ false
letters_short w h = not_so (four_letters (take 4 w)) (λ e. omega (arith, four_length (take 4 w) e, length-take 4 w))

-- what is read behind a test is there where both tests hold
both_some : {A T : Type 0} (read : A → Option T) (p q : Bool) (a : A) (t : T) → read a ≡ then_some q t
    → option_and_then read (then_some p a) ≡ then_some (p && q) t
both_some read true q a t e = e
both_some read false q a t e = refl

-- a list of aerodromes takes at most five bytes for each
fives : (ws : List Word) → all four_letters ws ≡ true → length (join 32 ws) ≤ 5 * length ws
fives [] e = omega arith
fives (w ∷ []) e = omega (arith, four_length w (both (four_letters w) true e).0)
fives (w ∷ (v ∷ ws)) e =
    let h = both (four_letters w) (all four_letters (v ∷ ws)) e in
    omega (arith, length-append w (32 ∷ join 32 (v ∷ ws)), four_length w h.0, fives (v ∷ ws) h.1)

pub too_long : (most : ℕ) (s : List ℕ) → 5 * most < length s → few_aerodromes most (split 32 s) ≡ false
too_long most s h = not_so (few_aerodromes most (split 32 s)) (λ e.
    let p = both (leb (length (split 32 s)) most) (all four_letters (split 32 s)) e in
    omega (arith, h, fives (split 32 s) p.1, ap (λ (t : List ℕ). length t) (join-split 32 s), leb-true (length (split 32 s)) most p.0))

-- a time is read from what is joined to four letters
pub clock_joined : (w : Word) → option_and_then clock_read (then_some (four_letters (take 4 w)) (drop 4 w)) ≡ at_clock w
unfolding joined
clock_joined w = both_some clock_read (four_letters (take 4 w)) (clock_fits (drop 4 w)) (drop 4 w) (clock_of (drop 4 w)) refl

pub elapsed_joined : (w : Word) → option_and_then elapsed_read (then_some (four_letters (take 4 w)) (drop 4 w)) ≡ at_elapsed w
unfolding joined
elapsed_joined w = both_some elapsed_read (four_letters (take 4 w)) (elapsed_fits (drop 4 w)) (drop 4 w) (elapsed_of (drop 4 w)) refl

-- a time that may be absent

pub open_alone : (s : List ℕ) → four_letters s ≡ true → fits13open s ≡ true
unfolding fits13open
open_alone s e =
    let h : length s ≤ 4 = omega (arith, four_length s e) in
    rw (take_all 4 s h, drop_end s 4 h, e)

pub open_joined : (s : List ℕ) → four_letters s ≡ false → fits13open s ≡ joined clock_hours s
unfolding fits13open joined
open_joined s e = go (drop 4 s) refl
  where
    go : (t : Word) → drop 4 s ≡ t → (four_letters (take 4 s) && clock_or_none t) ≡ (four_letters (take 4 s) && clock_fits t)
    go [] q = let h : length s ≤ 4 = omega (arith, sym (length-drop 4 s) ∙ ap length q) in rw (take_all 4 s h, e)
    go (b ∷ t) q = refl

-- a time behind the first four bytes

module _ (s : List ℕ) (h : length s < 8) where
  time_short : (most : ℕ) → time_fits most (take 4 (drop 4 s)) ≡ false
  time_short most =
      let n : length (drop 4 s) ≤ 4 = simp length-drop (omega arith) in
      not_so (time_fits most (take 4 (drop 4 s)))
      (λ e. omega (arith, sym (ap length (take_all 4 (drop 4 s) n)) ∙ time_length most (take 4 (drop 4 s)) e, length-drop 4 s))

  pub clock_short : clock_at s ≡ None
  clock_short = rw (time_short clock_hours)

  pub elapsed_short : elapsed_at s ≡ None
  elapsed_short = rw (time_short elapsed_hours)

-- THE WORDS OF A CONTENT, the first of which ends at e

module _ (s : List ℕ) (e : ℕ) (end : e ≡ 0 + up_to 32 (drop 0 s)) where
  pub first_at : first (split 32 s) ≡ take e s
  first_at = let z : e - 0 ≡ e = omega arith in ap first (split_at 32 s 0 e end) ∙ ap (λ (n : ℕ). take n s) z

  pub others_here : e < length s → others (split 32 s) ≡ split 32 (drop (e + 1) s)
  others_here h = ap others (split_at 32 s 0 e end) ∙ after_here 32 s e h

  pub others_end : length s ≤ e → others (split 32 s) ≡ []
  others_end h = ap others (split_at 32 s 0 e end) ∙ after_end 32 s e h

  others_null : e ≤ length s → null (others (split 32 s)) ≡ eqb e (length s)
  others_null l = go (eqb e (length s)) refl
    where
      go : (b : Bool) → eqb e (length s) ≡ b → null (others (split 32 s)) ≡ b
      go true q = ap null (others_end (omega (arith, eqb-true e (length s) q)))
      go false q =
          let n = eqb-false e (length s) q in
          ap null (others_here (omega arith)) ∙ null-split 32 (drop (e + 1) s)

  -- field 16 in FPL and SPL

  pub plan_stop : joined elapsed_hours (take e s) ≡ false → fits16plan s ≡ false
  unfolding fits16plan
  plan_stop t = rw (first_at, t)

  pub plan_last : joined elapsed_hours (take e s) ≡ true → length s ≤ e → fits16plan s ≡ true
  unfolding fits16plan
  plan_last t l = rw (first_at, t, others_end l)

  pub plan_next : joined elapsed_hours (take e s) ≡ true → e < length s → fits16plan s ≡ few_aerodromes most_alternates (split 32 (drop (e + 1) s))
  unfolding fits16plan
  plan_next t l = rw (first_at, t, others_here l)

  -- field 17

  pub landed_stop : joined clock_hours (take e s) ≡ false → fits17 s ≡ false
  unfolding fits17
  landed_stop t = rw (first_at, t)

  pub landed_other : e ≤ length s → joined clock_hours (take e s) ≡ true → same (take 4 (take e s)) unlisted ≡ false → fits17 s ≡ eqb e (length s)
  unfolding fits17
  landed_other l t u = rw (first_at, t, u) (others_null l)

  pub landed_bare : joined clock_hours (take e s) ≡ true → same (take 4 (take e s)) unlisted ≡ true → length s ≤ e → fits17 s ≡ false
  unfolding fits17
  landed_bare t u l = rw (first_at, t, u, others_end l)

  pub landed_place_lem : joined clock_hours (take e s) ≡ true → same (take 4 (take e s)) unlisted ≡ true → e < length s
      → fits17 s ≡ all text_word (split 32 (drop (e + 1) s))
  unfolding fits17
  landed_place_lem t u l = rw (first_at, t, u, others_here l, null-split 32 (drop (e + 1) s))
