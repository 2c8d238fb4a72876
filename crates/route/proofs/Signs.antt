-- The signs that a word begins with: where they end, and what may stand there. Assumes nothing.
use Prim.Native.Nat.{ℕ, zero, suc, ◌+◌, ◌-◌, ◌<◌, ◌≤◌}
use mathlib.Core.Path.{◌≡◌, refl, sym, ap, ◌∙◌}
use mathlib.Core.Bool.{Bool, true, false, ◌&&◌, true≢false}
use mathlib.Core.List.{List, [], ◌∷◌}
use native.Mathlib.Omega.{arith}
use lib.Dec.{leb}
use lib.ListN.{length, take, drop, get_or, length-drop}
use lib.Seq.{drop-drop, take-length, length-take-le}
use borrow.Author.Tests.{le-ltb, le-leb, lt-leb}
use Rattle.alphabet.specs.Text.{bytes}
use Rattle.alphabet.specs.Alphabet.{digit, sign}
use Rattle.text.specs.Words.{Word, up_to, holds, before, all, leading, same}
use Rattle.text.proofs.Index.{find_here, find_next, find_end, at_up_to, all-leading, leading-take, up_to-leading, leading-before}
use Rattle.text.proofs.Tests.{both, all-free, same-eq, same_other, of_elem}
use Rattle.text.proofs.Joined.{holds-free, up_to-free}
use Rattle.shape.specs.Shape.{fits, copies, wide}
use Rattle.shape.proofs.Index.{fits_other}
use Rattle.route.specs.Levels.{number_at}
use Rattle.route.specs.Points.{short, long, polar, polar_of, radial_fits, indicators, name_fits, point_fits}
use Rattle.route.specs.Field15.{pair_fits, word_fits, element_fits}
use Rattle.route.proofs.Points.{known}
use Rattle.route.proofs.Digits.{nines}
use Rattle.route.proofs.RouteWords.{known_free, pair_parts, Formed, a_climb, a_change, a_last, an_indicator, a_plain, formed}

-- A WORD OF SIGNS

pub signs_plain : (last : Bool) (w : Word) → all sign w ≡ true → element_fits last w ≡ word_fits last w
unfolding element_fits
signs_plain last w e = rw (holds-free 47 w (all-free sign 47 refl w e))

-- what is no word of signs is no point
pub no_point : (most : ℕ) (w : Word) → all sign w ≡ false → point_fits most w ≡ false
no_point most w n = go (point_fits most w) refl
  where
    go : (b : Bool) → point_fits most w ≡ b → b ≡ false
    go true e = absurd (true≢false (sym (known most w e).signs ∙ n))
    go false e = refl

-- a short word can only be a name
pub short_name : (most : ℕ) (w : Word) → length w < 7 → point_fits most w ≡ name_fits most w
unfolding point_fits
short_name most w h =
    rw (
      fits_other (wide short) w (λ e. omega arith),
      fits_other (wide long) w (λ e. omega arith),
      le-ltb 7 (length w) (omega arith),
    )

-- A POINT WITH BEARING, of a word of signs

all_take : (n : ℕ) (w : Word) → all sign w ≡ true → all sign (take n w) ≡ true
all_take zero w e = refl
all_take (suc n) [] e = refl
all_take (suc n) (b ∷ w) e = let h = both (sign b) (all sign w) e in rw h.0 (all_take n w h.1)

pub bearing_far : (w : Word) → 11 < length w → radial_fits w ≡ false
unfolding radial_fits
bearing_far w h = rw (lt-leb (length w) 11 h)

pub by_bearing : (w : Word) → all sign w ≡ true → 7 < length w → length w ≤ 11
    → radial_fits w ≡ (all digit (polar_of w) && leb (number_at 0 3 (polar_of w)) 360)
unfolding radial_fits
by_bearing w e m l =
    let n : length (polar_of w) ≡ 6 = simp length-drop (omega arith) in
    let six : fits (wide polar) (polar_of w) ≡ all digit (polar_of w) = ap (λ (k : ℕ). fits (copies k) (polar_of w)) (sym n) ∙ nines (polar_of w) in
    rw (le-leb (length w) 11 l, all_take (length w - 6) w e, six)

-- A WORD WHOSE SIGNS END AT o

-- all that stands before the first oblique of a word that fits is signs
pair_front : (ts : List Word) (w : Word) → pair_fits ts w ≡ true → all sign (before 47 w) ≡ true
pair_front ts w e = (known 5 (before 47 w) (pair_parts ts w e).point).signs

indicators_front : all (λ v. all sign (before 47 v)) indicators ≡ true
unfolding indicators
indicators_front = refl

element_front : (last : Bool) (w : Word) → Formed last w → all sign (before 47 w) ≡ true
element_front last w (a_climb h s q) = ap (all sign) (same-eq (before 47 w) (bytes "C") s)
element_front last w (a_change h s q) = pair_front _ w q
element_front last w (a_last h s q) = ap (λ (v : Word). all sign (before 47 v)) (same-eq w (bytes "T") s)
element_front last w (an_indicator h s i) = of_elem (λ v. all sign (before 47 v)) indicators indicators_front w i
element_front last w (a_plain h s i q) =
    let k = known 7 w q in
    rw (up_to-free 47 w (known_free w k), take-length w) k.signs

module _ (w : Word) (o : ℕ) (end : o ≡ leading sign w) where
  pub front_signs : all sign (take o w) ≡ true
  front_signs = rw end (all-leading sign w)

  -- the whole word is signs
  pub whole_signs : o ≡ length w → all sign w ≡ true
  whole_signs h = ap (all sign) (sym (take-length w)) ∙ ap (λ (i : ℕ). all sign (take i w)) (sym h) ∙ front_signs

  pub signs_pair : (ts : List Word) → o ≡ length w → pair_fits ts w ≡ false
  unfolding pair_fits
  signs_pair ts h = rw (holds-free 47 w (all-free sign 47 refl w (whole_signs h)))

  -- the oblique stands there, if it does
  pub oblique_at : o < length w → get_or w o 0 ≡ 47 → o ≡ 0 + up_to 47 w
  oblique_at h e =
      let u : up_to 47 w ≡ o + up_to 47 (drop o w) = rw end (up_to-leading sign 47 refl w) in
      omega (arith, find_here 47 w o h e)

  -- and if all before the first oblique is signs
  ends_at : o < length w → all sign (before 47 w) ≡ true → get_or w o 0 ≡ 47
  ends_at h e =
      let u : o ≡ up_to 47 w = end ∙ leading-before sign 47 refl w e in
      ap (λ (i : ℕ). get_or w i 0) u ∙ at_up_to 47 w (omega arith)

  pub no_pair : (ts : List Word) → o < length w → (get_or w o 0 ≡ 47 → ⊥) → pair_fits ts w ≡ false
  no_pair ts h n = go (pair_fits ts w) refl
    where
      go : (b : Bool) → pair_fits ts w ≡ b → b ≡ false
      go true e = absurd (n (ends_at h (pair_front ts w e)))
      go false e = refl

  pub no_element : (last : Bool) → o < length w → (get_or w o 0 ≡ 47 → ⊥) → element_fits last w ≡ false
  no_element last h n = go (element_fits last w) refl
    where
      go : (b : Bool) → element_fits last w ≡ b → b ≡ false
      go true e = absurd (n (ends_at h (element_front last w (formed last w e))))
      go false e = refl

  -- such a word fits anywhere if it fits last
  pub anywhere : o < length w → (last : Bool) → element_fits last w ≡ element_fits true w
  unfolding element_fits
  anywhere h last = go (holds 47 w) refl
    where
      other : same w (bytes "T") ≡ false
      other = same_other w (bytes "T") (λ e. let l = ap length e in let m = end ∙ ap (leading sign) e in omega arith)

      go : (b : Bool) → holds 47 w ≡ b → element_fits last w ≡ element_fits true w
      go true e = rw e
      go false e = rw (e, other)

-- THE WORD AT `at` IN A TEXT, whose signs end at o

module _ (s : List ℕ) (at o : ℕ) (end : o ≡ at + leading sign (drop at s)) where
  size : o - at ≡ leading sign (drop at s)
  size = omega arith

  pub word_signs : all sign (take (o - at) (drop at s)) ≡ true
  word_signs = rw size (all-leading sign (drop at s))

  -- from there on the next space is the next from `at` on
  pub space_behind : (e : ℕ) → e ≡ o + up_to 32 (drop o s) → e ≡ at + up_to 32 (drop at s)
  space_behind e h =
      let d : drop (leading sign (drop at s)) (drop at s) ≡ drop o s = drop-drop (leading sign (drop at s)) at s ∙ ap (λ (i : ℕ). drop i s) (sym end) in
      let u = ap (λ (t : List ℕ). leading sign (drop at s) + up_to 32 t) d in
      omega (arith, up_to-leading sign 32 refl (drop at s), u)

  pub space_here : o < length s → get_or s o 0 ≡ 32 → o ≡ at + up_to 32 (drop at s)
  space_here h e = space_behind o (omega (arith, find_here 32 s o h e))

  pub space_none : length s ≤ o → o ≡ at + up_to 32 (drop at s)
  space_none h = space_behind o (omega (arith, find_end 32 s o h))

  -- the word reaches further where another byte stands there
  module _ (e : ℕ) (l : e ≤ length s) (next : e ≡ o + up_to 32 (drop o s)) (h : o < length s) (n : get_or s o 0 ≡ 32 → ⊥) where
    pub signs_inside : o - at < length (take (e - at) (drop at s))
    signs_inside =
        let f = find_next 32 s o h n in
        let k : length (take (e - at) (drop at s)) ≡ e - at = length-take-le (e - at) (drop at s) (simp length-drop (omega arith)) in
        omega arith

    pub signs_there : o - at ≡ leading sign (take (e - at) (drop at s))
    signs_there =
        let f = find_next 32 s o h n in
        sym (leading-take sign (e - at) (drop at s) (omega arith) ∙ sym size)
