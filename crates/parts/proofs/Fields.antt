-- The contents of a plan's fields 9 and 16, where they fit, as the code comes to their parts. Assumes nothing.
use Prim.Native.Nat.{ℕ, zero, suc, ◌+◌, ◌*◌, ◌-◌, ◌<◌, ◌≤◌}
use mathlib.Core.Path.{◌≡◌, refl, sym, ap, ◌∙◌}
use mathlib.Core.Bool.{true, false≢true}
use mathlib.Core.List.{List, [], ◌∷◌, ◌++◌, append-nil}
use native.Mathlib.Omega.{arith}
use lib.Dec.{leb}
use lib.ListN.{length, take, drop, get_or, length-append}
use lib.Seq.{take_at, drop_at, drop-drop}
use borrow.Author.Tests.{leb-true}
use Rattle.text.specs.Words.{Word, all, join, split}
use Rattle.text.proofs.Tests.{both}
use Rattle.text.proofs.Index.{split_cut}
use Rattle.text.proofs.Joined.{join-split}
use Rattle.shape.specs.Numbers.{value}
use Rattle.shape.specs.Time.{elapsed_hours}
use Rattle.head.specs.Field9.{number, aircraft, count_fits, count_of, aircraft_fits, fits9}
use Rattle.aerodromes.specs.Aerodromes.{four_letters, first, others}
use Rattle.aerodromes.specs.Field16.{most_alternates, fits16plan, record16plan}
use Rattle.aerodromes.proofs.Aerodromes.{four_length, joined_length}
use Rattle.aerodromes.proofs.Field16.{plan_parts}

-- FIELD 9: the number has two digits at most

number_short : (w : Word) → count_fits w ≡ true → length w ≤ 2
unfolding count_fits
number_short [] e = omega arith
number_short (a ∷ []) e = omega arith
number_short (a ∷ (b ∷ [])) e = omega arith
number_short (a ∷ (b ∷ (c ∷ w))) e = absurd (false≢true e)

pub digits_short : (s : List ℕ) → fits9 s ≡ true → length (number s) ≤ 2
unfolding fits9
digits_short s e = number_short (number s) (both (count_fits (number s)) (aircraft_fits (aircraft s)) e).0

pub count_none : (w : Word) → length w ≡ 0 → count_of w ≡ 1
count_none [] e = refl
count_none (a ∷ w) e = absurd (omega arith)

pub count_one : (w : Word) → length w ≡ 1 → count_of w ≡ get_or w 0 0 - 48
count_one [] e = absurd (omega arith)
count_one (a ∷ []) e = omega arith
count_one (a ∷ (b ∷ w)) e = absurd (omega arith)

pub count_two : (w : Word) → (length w ≡ 0 → ⊥) → length w ≤ 2 → (length w ≡ 1 → ⊥) → count_of w ≡ value (take 2 (drop 0 w))
count_two [] n l m = absurd (n refl)
count_two (a ∷ []) n l m = absurd (m refl)
count_two (a ∷ (b ∷ [])) n l m = refl
count_two (a ∷ (b ∷ (c ∷ w))) n l m = absurd (omega arith)

-- FIELD 16: the destination and its elapsed time are eight bytes, and each alternate is a space and four letters

abbrev behind_each : List Word → List ℕ
behind_each [] = []
behind_each (w ∷ ws) = 32 ∷ (w ++ behind_each ws)

each_joined : (w : Word) (ws : List Word) → join 32 (w ∷ ws) ≡ w ++ behind_each ws
each_joined w [] = sym (append-nil w)
each_joined w (v ∷ ws) = ap (λ (t : List ℕ). w ++ (32 ∷ t)) (each_joined v ws)

each_long : (ws : List Word) → all four_letters ws ≡ true → length (behind_each ws) ≡ 5 * length ws
each_long [] e = refl
each_long (w ∷ ws) e =
    let h = both (four_letters w) (all four_letters ws) e in
    omega (arith, length-append w (behind_each ws), four_length w h.0, each_long ws h.1)

each_at : (ws : List Word) (i : ℕ) → all four_letters ws ≡ true → i < length ws → take 4 (drop (5 * i + 1) (behind_each ws)) ≡ get_or ws i []
each_at [] i e l = absurd (omega arith)
each_at (w ∷ ws) zero e l = take_at w (behind_each ws) 4 (four_length w (both (four_letters w) (all four_letters ws) e).0)
each_at (w ∷ ws) (suc i) e l =
    let h = both (four_letters w) (all four_letters ws) e in
    let z : 5 * suc i + 1 ≡ suc (4 + (5 * i + 1)) = omega arith in
    ap (λ (k : ℕ). take 4 (drop k (behind_each (w ∷ ws)))) z
    ∙ ap (take 4) (sym (drop-drop (5 * i + 1) 4 (w ++ behind_each ws)) ∙ ap (drop (5 * i + 1)) (drop_at w (behind_each ws) 4 (four_length w h.0)))
    ∙ each_at ws i h.1 (omega arith)

module _ (s : List ℕ) (e : fits16plan s ≡ true) where
  abbrev lead : Word
  lead = first (split 32 s)

  abbrev alternates : List Word
  alternates = others (split 32 s)

  whole : lead ++ behind_each alternates ≡ s
  whole =
      let h = split_cut 32 s in
      let words : split 32 s ≡ lead ∷ alternates = h ∙ sym (ap (λ (ws : List Word). first ws ∷ others ws) h) in
      sym (each_joined lead alternates) ∙ sym (ap (join 32) words) ∙ join-split 32 s

  eight : length lead ≡ 8
  eight = joined_length elapsed_hours lead (plan_parts s e).0

  few : (leb (length alternates) most_alternates ≡ true) × (all four_letters alternates ≡ true)
  few = both (leb (length alternates) most_alternates) (all four_letters alternates) (plan_parts s e).1

  -- so its length tells how many alternates there are
  pub alternates_long : length s ≡ 8 + 5 * length alternates
  alternates_long = sym (ap length whole) ∙ omega (arith, length-append lead (behind_each alternates), eight, each_long alternates few.1)

  pub alternates_few : length alternates ≤ 2
  alternates_few = leb-true (length alternates) 2 few.0

  pub alternate_at : (i : ℕ) → i < length alternates → take 4 (drop (8 + (5 * i + 1)) s) ≡ get_or (record16plan s).alternates i []
  alternate_at i l =
      ap (take 4)
      (sym (drop-drop (5 * i + 1) 8 s)
      ∙ ap (λ (t : List ℕ). drop (5 * i + 1) (drop 8 t)) (sym whole) ∙ ap (drop (5 * i + 1)) (drop_at lead (behind_each alternates) 8 eight))
      ∙ each_at alternates i few.1 l
