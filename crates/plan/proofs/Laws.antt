-- A field that is unexplained has a number, and none has 0. Assumes nothing.
use Prim.Native.Nat.{ℕ}
use mathlib.Core.Path.{◌≡◌, refl, sym, ap, ◌∙◌}
use mathlib.Core.Bool.{Bool, true, false, cond, not, false≢true}
use lib.Dec.{eqb}
use borrow.Author.Tests.{eqb-true, eqb-false}
use Rattle.plan.specs.Unexplained.{numbered}
use Rattle.std.specs.Prelude.{Option, None, Some, is_some}

abbrev or_zero : Option ℕ → ℕ
or_zero (Some n) = n
or_zero None = 0

pub numbered_none : (n : ℕ) → numbered n ≡ None → n ≡ 0
numbered_none n e = go (eqb n 0) refl e
  where
    go : (b : Bool) → eqb n 0 ≡ b → cond b None (Some n) ≡ None → n ≡ 0
    go true p e = eqb-true n 0 p
    go false p e = cc

pub numbered_some : (n k : ℕ) → numbered n ≡ Some k → (k ≡ n) × (k ≡ 0 → ⊥)
numbered_some n k e = go (eqb n 0) refl e
  where
    go : (b : Bool) → eqb n 0 ≡ b → cond b None (Some n) ≡ Some k → (k ≡ n) × (k ≡ 0 → ⊥)
    go true p e = cc
    go false p e = let same : n ≡ k = ap or_zero e in (cc, λ z. eqb-false n 0 p (same ∙ z))

pub numbered_free : (n : ℕ) (none : Bool) → is_some (numbered n) ≡ not none → none ≡ eqb n 0
numbered_free n none e = go (eqb n 0) none e
  where
    go : (b none : Bool) → is_some (cond b None (Some n)) ≡ not none → none ≡ b
    go true true e = refl
    go true false e = absurd (false≢true e)
    go false true e = absurd (false≢true (sym e))
    go false false e = refl
