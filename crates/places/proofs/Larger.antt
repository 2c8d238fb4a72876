-- The larger and the smaller of two places, and the largest of the places that the words of a list have. Assumes nothing.
use Prim.Native.Nat.{ℕ, ◌<◌, ◌≤◌}
use mathlib.Core.Path.{◌≡◌, refl, sym, ◌∙◌}
use mathlib.Core.Bool.{Bool, true, false, cond}
use mathlib.Core.List.{List, [], ◌∷◌}
use native.Mathlib.Omega.{arith}
use lib.Dec.{leb}
use borrow.Author.Tests.{leb-true, leb-false}
use Rattle.std.specs.Prelude.{map, max}
use Rattle.std.specs.List.{fold}
use Rattle.text.specs.Words.{Word}
use Rattle.places.specs.Parts.{larger, smaller, largest}

pub larger_second : (p q : ℕ) → p ≤ q → larger p q ≡ q
larger_second p q h = omega arith

pub larger_one : (p q : ℕ) → q ≤ p → larger p q ≡ p
larger_one p q h = omega arith

pub larger_none : (p : ℕ) → larger p 0 ≡ p
larger_none p = omega arith

pub larger_first : (p : ℕ) → larger 0 p ≡ p
larger_first p = omega arith

pub larger_under : (p q v : ℕ) → p ≤ v → q ≤ v → larger p q ≤ v
larger_under p q v a b = omega arith

pub larger_assoc : (p q r : ℕ) → larger (larger p q) r ≡ larger p (larger q r)
larger_assoc p q r = omega arith

-- by a test
pub larger_by : (p q : ℕ) → cond (leb p q) q p ≡ larger p q
larger_by p q = go (leb p q) refl
  where
    go : (x : Bool) → leb p q ≡ x → cond x q p ≡ larger p q
    go true e = let l : p ≤ q = leb-true p q e in omega arith
    go false e = let l : q < p = leb-false p q e in omega arith

pub smaller_by : (p q : ℕ) → cond (leb p q) p q ≡ smaller p q
smaller_by p q = go (leb p q) refl
  where
    go : (x : Bool) → leb p q ≡ x → cond x p q ≡ smaller p q
    go true e = let l : p ≤ q = leb-true p q e in omega arith
    go false e = let l : q < p = leb-false p q e in omega arith

-- THE WORDS OF A LIST: what a fold of `max` gives is the largest of the places that f gives to them

pub largest_folded : (f : Word → ℕ) (best : ℕ) (ws : List Word) → fold max best (map f ws) ≡ larger best (largest f ws)
largest_folded f best [] = sym (larger_none best)
largest_folded f best (w ∷ ws) = largest_folded f (max best (f w)) ws ∙ larger_assoc best (f w) (largest f ws)
