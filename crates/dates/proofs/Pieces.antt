-- The pieces that a text is cut into at a byte, one after the other, and the place at which each begins. Assumes nothing.
use Prim.Native.Nat.{ℕ, suc, ◌+◌, ◌-◌, ◌<◌, ◌≤◌}
use mathlib.Core.Path.{◌≡◌, refl, sym, ap, ◌∙◌}
use mathlib.Core.List.{List, [], ◌∷◌}
use native.Mathlib.Omega.{arith}
use lib.ListN.{length, take, drop, get_or, length-drop}
use lib.Seq.{drop-cons, length-take-le}
use Rattle.text.specs.Words.{Word, split, up_to, after}
use Rattle.text.proofs.Index.{up_to-le, split_at, after_here, after_end}

-- w is the n-th of all pieces, of which those from the n-th on are the pieces of what begins at `at`
module _ (c : ℕ) (s : List ℕ) (all : List Word) (n at : ℕ) (inside : at ≤ length s) (left : drop n all ≡ split c (drop at s))
    (w : Word) (turn : (n < length all) × (w ≡ get_or all n w)) where
  abbrev e : ℕ
  e = at + up_to c (drop at s)

  cut : get_or all n w ∷ drop (n + 1) all ≡ take (e - at) (drop at s) ∷ after c (drop e s)
  cut =
      let next : suc n ≡ n + 1 = omega arith in
      ap (λ (k : ℕ). get_or all n w ∷ drop k all) (sym next) ∙ sym (drop-cons all n w turn.0) ∙ left ∙ split_at c s at e refl

  taken : w ≡ take (e - at) (drop at s)
  taken = turn.1 ∙ ap (λ (l : List Word). get_or l 0 []) cut

  pub ends : (at + length w ≡ at + up_to c (drop at s)) × (at + length w ≤ length s)
  ends =
      let most = up_to-le c (drop at s) in
      let long = ap length taken ∙ length-take-le (e - at) (drop at s) (omega (arith, most)) in
      (omega (arith, long), omega (arith, long, most, length-drop at s))

  pub piece_is : w ≡ take (at + length w - at) (drop at s)
  piece_is = taken ∙ ap (λ (k : ℕ). take (k - at) (drop at s)) (sym ends.0)

  pub more_left : at + length w < length s → drop (n + 1) all ≡ split c (drop (at + length w + 1) s)
  more_left h =
      ap (drop 1) cut ∙ ap (λ (k : ℕ). after c (drop k s)) (sym ends.0) ∙ after_here c s (at + length w) h

  pub none_left : length s ≤ at + length w → drop (n + 1) all ≡ []
  none_left h = ap (drop 1) cut ∙ ap (λ (k : ℕ). after c (drop k s)) (sym ends.0) ∙ after_end c s (at + length w) h
