-- Digits as a shape, and a coordinate by its digits. Assumes nothing.
use Prim.Native.Nat.{ℕ, zero, suc, ◌+◌, ◌-◌, ◌<◌}
use mathlib.Core.Path.{◌≡◌, refl, sym, ap, ◌∙◌}
use mathlib.Core.Bool.{Bool, true, false, cond, ◌&&◌, and_assoc, and-true}
use mathlib.Core.List.{List, [], ◌∷◌, ◌++◌}
use native.Mathlib.Omega.{arith}
use lib.Dec.{eqb}
use lib.ListN.{length, take, drop, get_or, length-append, length-drop}
use lib.Seq.{length-take-le, take-take, get_or-take}
use borrow.Author.Tests.{eq-eqb, ne_eqb}
use Rattle.alphabet.specs.Text.{bytes}
use Rattle.alphabet.specs.Alphabet.{digit, one_of}
use Rattle.text.specs.Words.{Word, all}
use Rattle.text.proofs.Index.{drop_here, drop_end}
use Rattle.shape.specs.Shape.{letters, in_class, fits, copies}
use Rattle.shape.proofs.Index.{fits_other}
use Rattle.route.specs.Fronts.{half_fits, coordinate_shape}

copies_length : (k : ℕ) → length (copies k) ≡ k
copies_length zero = refl
copies_length (suc k) = ap suc (copies_length k)

pub nines : (d : Word) → fits (copies (length d)) d ≡ all digit d
nines [] = refl
nines (b ∷ d) = ap (λ (t : Bool). digit b && t) (nines d)

-- k digits, and what is behind them
digits_then_lem : (k : ℕ) (u w : Word) → fits (copies k ++ u) w ≡ (fits (copies k) (take k w) && fits u (drop k w))
digits_then_lem zero u w = refl
digits_then_lem (suc k) u [] = refl
digits_then_lem (suc k) u (b ∷ w) =
    ap (λ (t : Bool). digit b && t) (digits_then_lem k u w) ∙ sym (and_assoc (digit b) (fits (copies k) (take k w)) (fits u (drop k w)))

-- k digits, a byte that is x in the shape, and what is behind it
digits_letter : (k x : ℕ) (u w : Word) → k < length w
    → fits (copies k ++ (x ∷ u)) w ≡ (all digit (take k w) && (in_class x (get_or w k 0) && fits u (drop (k + 1) w)))
digits_letter k x u w h =
    let n : length (take k w) ≡ k = length-take-le k w (omega arith) in
    let d : fits (copies k) (take k w) ≡ all digit (take k w) = ap (λ (m : ℕ). fits (copies m) (take k w)) (sym n) ∙ nines (take k w) in
    digits_then_lem k (x ∷ u) w ∙ rw (d, drop_here w k h)

-- A COORDINATE

-- the last byte stands behind k digits
half_at : (ls : List ℕ) (w : Word) (k : ℕ) → length w ≡ k + 1 → half_fits ls w ≡ (all digit (take k w) && one_of (get_or w k 0) ls)
unfolding half_fits
half_at ls w k h = let n : length w - 1 ≡ k = omega arith in rw n

pub half_none : (ls : List ℕ) (w : Word) → all digit (take (length w - 1) w) ≡ false → half_fits ls w ≡ false
unfolding half_fits
half_none ls w e = rw e

-- of two letters, one after the other
module _ (a b : ℕ) (w : Word) (e : all digit (take (length w - 1) w) ≡ true) where
  pub half_first : get_or w (length w - 1) 0 ≡ a → half_fits (a ∷ (b ∷ [])) w ≡ true
  unfolding half_fits
  half_first h = rw (e, eq-eqb (get_or w (length w - 1) 0) a h)

  pub half_second : (get_or w (length w - 1) 0 ≡ a → ⊥) → half_fits (a ∷ (b ∷ [])) w ≡ eqb (get_or w (length w - 1) 0) b
  unfolding half_fits
  half_second h = rw (e, ne_eqb (get_or w (length w - 1) 0) a h) (go (eqb (get_or w (length w - 1) 0) b))
    where
      go : (t : Bool) → cond t true false ≡ t
      go true = refl
      go false = refl

module _ (k j : ℕ) (w : Word) where
  pub no_coordinate : (length w ≡ k + j + 2 → ⊥) → fits (coordinate_shape k j) w ≡ false
  no_coordinate h =
      let a = copies_length k in
      let b = copies_length j in
      let l : length (coordinate_shape k j) ≡ k + j + 2 = simp length-append (omega arith) in
      fits_other (coordinate_shape k j) w (λ e. h (sym e ∙ l))

  -- where there are as many bytes, both halves are tried
  pub coordinate_by : length w ≡ k + j + 2
      → fits (coordinate_shape k j) w ≡ (half_fits (bytes "NS") (take (k + 1) w) && half_fits (bytes "EW") (drop (k + 1) w))
  unfolding letters
  coordinate_by h =
      let t : length (take (k + 1) w) ≡ k + 1 = length-take-le (k + 1) w (omega arith) in
      let l : length (drop (k + 1) w) ≡ j + 1 = simp length-drop (omega arith) in
      let e : drop (j + 1) (drop (k + 1) w) ≡ [] = drop_end (drop (k + 1) w) (j + 1) (omega arith) in
      let a = all digit (take k w) in
      let b = one_of (get_or w k 0) (bytes "NS") in
      let c = all digit (take j (drop (k + 1) w)) in
      let d = one_of (get_or (drop (k + 1) w) j 0) (bytes "EW") in
      let north : half_fits (bytes "NS") (take (k + 1) w) ≡ (a && b)
      = half_at (bytes "NS") (take (k + 1) w) k t ∙ rw (take-take k (k + 1) w (omega arith), get_or-take (k + 1) w k 0 (omega arith)) in
      let east : half_fits (bytes "EW") (drop (k + 1) w) ≡ (c && d) = half_at (bytes "EW") (drop (k + 1) w) j l in
      digits_letter k 110 (copies j ++ (101 ∷ [])) w (omega arith)
      ∙ rw (digits_letter j 101 [] (drop (k + 1) w) (omega arith), e, and-true d, north, east) (sym (and_assoc a b (c && d)))
