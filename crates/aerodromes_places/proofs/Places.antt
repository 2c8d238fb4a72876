-- The places of fields 13, 16 and 17 are right. Assumes nothing.
use Prim.Native.Nat.{ℕ, zero, suc, ◌+◌, ◌<◌, ◌≤◌}
use mathlib.Core.Path.{◌≡◌, refl, sym, ap, ◌∙◌}
use mathlib.Core.Bool.{Bool, true, false, ◌&&◌, ◌||◌, cond, and-true, and-false, false≢true, true≢false}
use mathlib.Core.List.{List, [], ◌∷◌, ◌++◌}
use Rattle.std.specs.Prelude.{None, Some}
use native.Mathlib.Omega.{arith}
use native.Mathlib.Nat.{zero-add}
use lib.Dec.{leb, eqb}
use lib.ListN.{length}
use borrow.Author.Tests.{leb-true, leb-false, le-leb, lt-leb, eqb-true, ne_eqb}
use Rattle.alphabet.specs.Text.{bytes}
use Rattle.alphabet.specs.Alphabet.{letter}
use Rattle.text.specs.Words.{Word, all, null, free, split}
use Rattle.text.proofs.Tests.{both}
use Rattle.text.proofs.Index.{null-split}
use Rattle.text.proofs.Joined.{split_one}
use Rattle.text.proofs.Tidy.{word_free}
use Rattle.shape.specs.Time.{time_fits, clock_hours, elapsed_hours}
use Rattle.places.specs.Place.{IsPlace}
use Rattle.places.specs.Parts.{no_more, fixed_fits, fixed_place, time_place}
use Rattle.places.specs.Given.{given}
use Rattle.places.specs.Words.{ended, words_fit, content_fits, words_place}
use Rattle.places.proofs.Given.{given_ended, given_some, given_place}
use Rattle.places.proofs.Place.{place_of_language, no_place, absorbed}
use Rattle.places.proofs.Leaves.{nil_place, maybe_place}
use Rattle.places.proofs.Fixed.{fixed_place_lem, time_place_lem}
use Rattle.places.proofs.Words.{none_of, none_fits, words_place_lem}
use Rattle.aerodromes.specs.Aerodromes.{four_letters, joined, aerodrome_of, joined_of, first, others}
use Rattle.aerodromes.specs.Field13.{fits13, fits13open, clock_or_none}
use Rattle.aerodromes.specs.Field16.{fits16, fits16plan, fits16entry, few_aerodromes, most_alternates}
use Rattle.aerodromes_places.specs.Places.{aerodrome_place, joined_place, place13, place16, plan, plan_place, place16plan, place16entry}
use Rattle.aerodromes.proofs.Aerodromes.{joined_tidy, four_tidy, cut_aerodrome, cut_joined}

-- FOUR LETTERS, and what follows them

module _ (g : List ℕ → Bool) where
  four_is : (s : List ℕ) → fixed_fits letter 4 g s ≡ (four_letters (aerodrome_of s) && g (joined_of s))
  unfolding four_letters
  four_is [] = refl
  four_is (a ∷ []) = and-false (letter a)
  four_is (a ∷ b ∷ []) = ap (λ (x : Bool). letter a && x) (and-false (letter b)) ∙ and-false (letter a)
  four_is (a ∷ b ∷ c ∷ []) =
      ap (λ (x : Bool). letter a && (letter b && x)) (and-false (letter c)) ∙ ap (λ (x : Bool). letter a && x) (and-false (letter b)) ∙ and-false (letter a)
  four_is (a ∷ b ∷ c ∷ d ∷ s) = go (letter a) (letter b) (letter c) (letter d)
    where
      go : (x y z u : Bool) → (x && (y && (z && (u && g s)))) ≡ ((x && (y && (z && (u && true)))) && g s)
      go true true true true = refl
      go true true true false = refl
      go true true false u = refl
      go true false z u = refl
      go false y z u = refl

  module _ (pg : List ℕ → ℕ) (right : (s : List ℕ) → IsPlace g s (pg s)) (e : List ℕ) (ge : g e ≡ true) where
    four_right : (s : List ℕ) → IsPlace (λ w. four_letters (aerodrome_of w) && g (joined_of w)) s (fixed_place letter 4 pg s)
    four_right s =
        place_of_language (fixed_fits letter 4 g) (λ w. four_letters (aerodrome_of w) && g (joined_of w)) four_is s (fixed_place letter 4 pg s)
        (fixed_place_lem letter g pg right e ge 65 refl 4 s)

midnight : (most : ℕ) → time_fits most (bytes "0000") ≡ true
unfolding time_fits
midnight most = rw (le-leb 0 most (omega arith))

pub joined_right : (most : ℕ) (s : List ℕ) → IsPlace (joined most) s (joined_place most s)
unfolding joined
joined_right most = four_right (time_fits most) (time_place most) (time_place_lem most) (bytes "0000") (midnight most)

pub placed13 : (s : List ℕ) → IsPlace fits13 s (place13 s)
placed13 = joined_right clock_hours

open_is : (w : Word) → (null w || time_fits clock_hours w) ≡ clock_or_none w
open_is [] = refl
open_is (b ∷ w) = refl

pub placed13open : (s : List ℕ) → IsPlace fits13open s (place13 s)
unfolding fits13open
placed13open s =
    place_of_language (λ w. four_letters (aerodrome_of w) && (null (joined_of w) || time_fits clock_hours (joined_of w))) fits13open
    (λ w. ap (λ (x : Bool). four_letters (aerodrome_of w) && x) (open_is (joined_of w))) s (place13 s)
    (four_right (λ w. null w || time_fits clock_hours w) (time_place clock_hours)
    (λ w. maybe_place (time_fits clock_hours) w (time_place clock_hours w) (time_place_lem clock_hours w)) [] refl s)

alone_is : (w : Word) → (four_letters (aerodrome_of w) && null (joined_of w)) ≡ four_letters w
unfolding four_letters
alone_is [] = refl
alone_is (a ∷ []) = refl
alone_is (a ∷ b ∷ []) = refl
alone_is (a ∷ b ∷ c ∷ []) = refl
alone_is (a ∷ b ∷ c ∷ d ∷ []) = and-true (letter a && (letter b && (letter c && (letter d && true))))
alone_is (a ∷ b ∷ c ∷ d ∷ x ∷ w) =
    and-false (letter a && (letter b && (letter c && (letter d && true)))) ∙ sym (rw (ne_eqb (suc (suc (suc (suc (suc (length w)))))) 4 (omega arith)))

aerodrome_right : (s : List ℕ) → IsPlace four_letters s (aerodrome_place s)
aerodrome_right s =
    place_of_language (λ w. four_letters (aerodrome_of w) && null (joined_of w)) four_letters alone_is s (aerodrome_place s)
    (four_right null no_more nil_place [] refl s)

pub placed16 : (s : List ℕ) → IsPlace fits16 s (place16 s)
placed16 = aerodrome_right

-- FIELD 16 IN FPL AND SPL

pub joined_free : (most : ℕ) (w : Word) → joined most w ≡ true → free 32 w ≡ true
joined_free most w e = word_free w (joined_tidy most w e)

four_free : (w : Word) → four_letters w ≡ true → free 32 w ≡ true
four_free w e = word_free w (four_tidy w e)

pub plan_right : (n : ℕ) (w : Word) → IsPlace (λ v. ended (plan.after n v)) w (plan_place n w)
plan_right n w = go (eqb n 0) (leb n most_alternates)
  where
    go : (x y : Bool)
        → IsPlace (λ v. ended (cond x (given (joined elapsed_hours v) 1) (given (y && four_letters v) (suc n)))) w
        (cond x (joined_place elapsed_hours w) (cond y (aerodrome_place w) 0))
    go true y = given_place (joined elapsed_hours) (λ v. 1) w (joined_place elapsed_hours w) (joined_right elapsed_hours w)
    go false true = given_place four_letters (λ v. suc n) w (aerodrome_place w) (aerodrome_right w)
    go false false = no_place w

plan_free : (n : ℕ) (w : Word) → ended (plan.after n w) ≡ true → free 32 w ≡ true
plan_free n w = go (eqb n 0)
  where
    go : (x : Bool) → ended (cond x (given (joined elapsed_hours w) 1) (given (leb n most_alternates && four_letters w) (suc n))) ≡ true → free 32 w ≡ true
    go true e = joined_free elapsed_hours w (sym (given_ended (joined elapsed_hours w) 1) ∙ e)
    go false e = four_free w (both (leb n most_alternates) (four_letters w) (sym (given_ended (leb n most_alternates && four_letters w) (suc n)) ∙ e)).1

plan_alive : (n j : ℕ) (w : Word) → plan.after n w ≡ Some j → (plan.final j || plan.goes j) ≡ true
plan_alive n j w = go (eqb n 0)
  where
    go : (x : Bool) → cond x (given (joined elapsed_hours w) 1) (given (leb n most_alternates && four_letters w) (suc n)) ≡ Some j
        → (leb 1 j || leb j most_alternates) ≡ true
    go true e = let h = given_some (joined elapsed_hours w) 1 j e in rw (le-leb 1 j (omega arith))
    go false e = let h = given_some (leb n most_alternates && four_letters w) (suc n) j e in rw (le-leb 1 j (omega arith))

pub sample_joined : (most : ℕ) → joined most (bytes "AAAA0000") ≡ true
unfolding joined four_letters
sample_joined most = midnight most

plan_more : (n : ℕ) → plan.goes n ≡ true → (w : Word) × (j : ℕ) × (plan.after n w ≡ Some j) × (plan.final j ≡ true)
unfolding four_letters
plan_more zero e = (bytes "AAAA0000", 1, rw (sample_joined elapsed_hours), refl)
plan_more (suc n) e = (bytes "AAAA", suc (suc n), rw (ne_eqb (suc n) 0 (omega arith), e), le-leb 1 (suc (suc n)) (omega arith))

plan_closed : (n : ℕ) → plan.goes n ≡ false → (w : Word) → plan.after n w ≡ None
plan_closed n e w = let l : most_alternates < n = leb-false n most_alternates e in rw (ne_eqb n 0 (omega arith), e)

-- the words
rest_fit : (vs : List Word) (n : ℕ) → n ≤ 2 → words_fit plan vs (Some (suc n)) ≡ (leb (n + length vs) 2 && all four_letters vs)
rest_fit [] n h = rw (le-leb 1 (suc n) (omega arith), le-leb (n + 0) 2 (omega arith))
rest_fit (v ∷ vs) n h = rw (ne_eqb (suc n) 0 (omega arith)) (go (leb (suc n) 2) refl (four_letters v) (rest_fit vs (suc n)))
  where
    go : (x : Bool) → leb (suc n) 2 ≡ x → (y : Bool) → (suc n ≤ 2 → words_fit plan vs (Some (suc (suc n))) ≡ (leb (suc n + length vs) 2 && all four_letters vs))
        → words_fit plan vs (given (x && y) (suc (suc n))) ≡ (leb (n + suc (length vs)) 2 && (y && all four_letters vs))
    go true e true ih =
        let z : suc n + length vs ≡ n + suc (length vs) = omega arith in
        ih (leb-true (suc n) 2 e) ∙ ap (λ (m : ℕ). leb m 2 && all four_letters vs) z
    go true e false ih = none_fits plan vs ∙ sym (and-false (leb (n + suc (length vs)) 2))
    go false e y ih = let l : 2 < suc n = leb-false (suc n) 2 e in none_fits plan vs ∙ sym (rw (lt-leb (n + suc (length vs)) 2 (omega arith)))

plan_is : (s : List ℕ) → content_fits plan 0 s ≡ fits16plan s
unfolding fits16plan
plan_is s = go (split 32 s) (null-split 32 s)
  where
    begun : (x : Bool) (vs : List Word) → words_fit plan vs (given x 1) ≡ (x && few_aerodromes most_alternates vs)
    begun true vs = rest_fit vs 0 (omega arith) ∙ ap (λ (m : ℕ). leb m 2 && all four_letters vs) (zero-add (length vs))
    begun false vs = none_fits plan vs

    go : (ws : List Word) → null ws ≡ false → words_fit plan ws (Some 0) ≡ (joined elapsed_hours (first ws) && few_aerodromes most_alternates (others ws))
    go [] h = absurd (true≢false h)
    go (w ∷ ws) h = begun (joined elapsed_hours w) ws

pub placed16plan : (s : List ℕ) → IsPlace fits16plan s (place16plan s)
unfolding place16plan
placed16plan s =
    place_of_language (content_fits plan 0) fits16plan plan_is s (words_place plan plan_place 0 (split 32 s))
    (words_place_lem plan plan_place plan_right plan_free plan_alive plan_more plan_closed 0 s)

-- FIELD 16 AS AN ENTRY OF A CHG

-- behind four letters alone a time may stand
bare_joined : (w : List ℕ) → fits16 w ≡ true → joined elapsed_hours (w ++ bytes "0000") ≡ true
unfolding joined
bare_joined w e = rw (cut_aerodrome w e (bytes "0000"), cut_joined w e (bytes "0000"), e) (midnight elapsed_hours)

bare_goes : (w : List ℕ) → fits16 w ≡ true → (t : List ℕ) × (fits16plan (w ++ t) ≡ true)
unfolding fits16plan
bare_goes w e =
    let j = bare_joined w e in
    (bytes "0000", rw (split_one 32 (w ++ bytes "0000") (joined_free elapsed_hours (w ++ bytes "0000") j), j))

pub placed16entry : (s : List ℕ) → IsPlace fits16entry s (place16entry s)
placed16entry s = absorbed fits16 fits16plan bare_goes s (place16plan s) (placed16plan s)

-- FOR THE CODE

pub plan_within : (n : ℕ) (w : Word) → plan_place n w ≤ length w
plan_within n w = (plan_right n w).within

pub plan_next : (n : ℕ) (w : Word) → ended (plan.after n w) ≡ true → plan.after n w ≡ Some (n + 1)
plan_next n w = go (eqb n 0) refl
  where
    got : (b : Bool) (m k : ℕ) → m ≡ k → ended (given b m) ≡ true → given b m ≡ Some k
    got true m k h e = ap Some h
    got false m k h e = absurd (false≢true e)

    go : (x : Bool) → eqb n 0 ≡ x → ended (cond x (given (joined elapsed_hours w) 1) (given (leb n most_alternates && four_letters w) (suc n))) ≡ true
        → cond x (given (joined elapsed_hours w) 1) (given (leb n most_alternates && four_letters w) (suc n)) ≡ Some (n + 1)
    go true q e = let z : n ≡ 0 = eqb-true n 0 q in got (joined elapsed_hours w) 1 (n + 1) (omega arith) e
    go false q e = got (leb n most_alternates && four_letters w) (suc n) (n + 1) (omega arith) e

pub plan_stuck : (n : ℕ) (w : Word) → ended (plan.after n w) ≡ false → plan.after n w ≡ None
plan_stuck n w = none_of (plan.after n w)
