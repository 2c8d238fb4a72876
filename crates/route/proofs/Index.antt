-- The definitions of field 15 where the code stands: the lists of shapes byte for byte, a word at its oblique, the words one by one. Assumes nothing.
use Prim.Native.Nat.{ℕ, ◌+◌, ◌-◌, ◌<◌, ◌≤◌}
use mathlib.Core.Path.{◌≡◌, refl, ap}
use mathlib.Core.Bool.{Bool, true, false, cond, ◌&&◌, and-true}
use mathlib.Core.List.{List, ◌++◌}
use native.Mathlib.Omega.{arith}
use native.Mathlib.Numerals.{add-one}
use lib.Arith.{lt_of_le-ne}
use lib.ListN.{length, take, drop}
use borrow.Author.Tests.{lt-ltb}
use Rattle.alphabet.specs.Text.{bytes}
use Rattle.text.specs.Words.{Word, split, after, up_to, null, same}
use Rattle.text.proofs.Index.{split_at, after_here, after_end, rest, null-split}
use Rattle.text.proofs.Tests.{and_false}
use Rattle.shape.specs.Shape.{wides, any}
use Rattle.route.specs.Levels.{speeds, levels, starts, changes, climbs}
use Rattle.route.specs.Points.{point_fits}
use Rattle.route.specs.Field15.{pair_fits, element_fits, route_fits, fits15}

-- THE LISTS OF SHAPES, byte for byte as the code has them

abbrev pub starts_text : List ℕ
starts_text = bytes "k9999f999 k9999s9999 k9999VFR M999f999 M999s9999 M999VFR"

abbrev pub changes_text : List ℕ
changes_text = bytes "k9999f999 k9999s9999 M999f999 M999s9999"

abbrev pub climbs_text : List ℕ
climbs_text =
    bytes "k9999f999f999 k9999f999s9999 k9999f999PLUS k9999s9999f999 k9999s9999s9999 k9999s9999PLUS "
    ++ bytes "M999f999f999 M999f999s9999 M999f999PLUS M999s9999f999 M999s9999s9999 M999s9999PLUS"

pub starts_wide : split 32 starts_text ≡ wides starts
unfolding starts speeds levels
starts_wide = refl

pub changes_wide : split 32 changes_text ≡ wides changes
unfolding changes speeds levels
changes_wide = refl

pub climbs_wide : split 32 climbs_text ≡ wides climbs
unfolding climbs speeds levels
climbs_wide = refl

-- with what Rattle says of `&w[i..]`
pub climbs_rest : (w : Word) (i : ℕ) → pair_fits (wides climbs) (take (length w - i) (drop i w)) ≡ pair_fits (wides climbs) (drop i w)
climbs_rest w i = ap (pair_fits (wides climbs)) (rest w i)

-- A WORD AT ITS OBLIQUE, which stands at o

module _ (w : Word) (o : ℕ) (at : o ≡ 0 + up_to 47 w) where
  at' : o ≡ up_to 47 w
  at' = omega arith

  pub pair_at : (ts : List Word) → (o ≡ length w → ⊥) → o ≤ length w → pair_fits ts w ≡ (point_fits 5 (take o w) && any ts (drop (o + 1) w))
  unfolding pair_fits
  pair_at ts ne le = rw (← at', lt-ltb o (length w) (lt_of_le-ne le ne), add-one o)

  pub element_at : (last : Bool) → (o ≡ length w → ⊥) → o ≤ length w
      → element_fits last w ≡ cond (same (take o w) (bytes "C")) (pair_fits (wides climbs) (drop (o + 1) w)) (pair_fits (wides changes) w)
  unfolding element_fits
  element_at last ne le = rw (← at', lt-ltb o (length w) (lt_of_le-ne le ne), add-one o)

-- THE WORDS ONE BY ONE

module _ (s : List ℕ) (at e : ℕ) (end : e ≡ at + up_to 32 (drop at s)) where
  -- a word that would fit neither last nor elsewhere
  pub route_not : ((last : Bool) → element_fits last (take (e - at) (drop at s)) ≡ false) → route_fits (split 32 (drop at s)) ≡ false
  route_not h = rw (split_at 32 s at e end, h (null (after 32 (drop e s))))

  pub route_last : length s ≤ e → route_fits (split 32 (drop at s)) ≡ element_fits true (take (e - at) (drop at s))
  route_last h = rw (split_at 32 s at e end, after_end 32 s e h) (and-true (element_fits true (take (e - at) (drop at s))))

  pub route_next : e < length s
      → route_fits (split 32 (drop at s)) ≡ (element_fits false (take (e - at) (drop at s)) && route_fits (split 32 (drop (e + 1) s)))
  route_next h = rw (split_at 32 s at e end, after_here 32 s e h, null-split 32 (drop (e + 1) s))

module _ (s : List ℕ) (e : ℕ) (end : e ≡ 0 + up_to 32 s) where
  pub field_one : length s ≤ e → fits15 s ≡ false
  unfolding fits15
  field_one h = rw (split_at 32 s 0 e end, after_end 32 s e h) (and_false (any (wides starts) (take (e - 0) s)) false refl)

  pub field_more : e < length s → fits15 s ≡ (any (wides starts) (take e s) && route_fits (split 32 (drop (e + 1) s)))
  unfolding fits15
  field_more h =
      let n : e - 0 ≡ e = omega arith in
      rw (split_at 32 s 0 e end, after_here 32 s e h, null-split 32 (drop (e + 1) s), n)
