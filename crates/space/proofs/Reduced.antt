-- What the reduction does to a message: it makes it no longer, once is enough, and it changes nothing but white space. Assumes nothing.
use Prim.Native.Nat.{ℕ, suc, ◌≤◌}
use mathlib.Core.Path.{◌≡◌, refl, sym}
use mathlib.Core.Bool.{Bool, true, false, cond, not, ◌&&◌}
use mathlib.Core.List.{List, [], ◌∷◌}
use native.Mathlib.Omega.{arith}
use lib.ListN.{length}
use Rattle.alphabet.specs.Alphabet.{white}
use Rattle.space.specs.Reduced.{opens, stands_for_run, kept, reduced_from, reduced}
use Rattle.space.proofs.Bytes.{space_white}

-- NEVER LONGER

pub kept_length : (w s : Bool) (b : ℕ) (x : List ℕ) (n : ℕ) → length x ≤ n → length (kept w s b x) ≤ suc n
kept_length true true b x n p = omega arith
kept_length true false b x n p = omega arith
kept_length false s b x n p = omega arith

pub shorter : (a : Bool) (m : List ℕ) → length (reduced_from a m) ≤ length m
unfolding reduced_from
shorter a [] = omega arith
shorter a (b ∷ bs) = kept_length (white b) (stands_for_run a bs) b _ _ (shorter (cond (white b) a (opens b)) bs)

pub never_longer : (m : List ℕ) → length (reduced m) ≤ length m
unfolding reduced
never_longer m = shorter false m

-- ONCE IS ENOUGH

solid_head : (w k : Bool) → not w && k ≡ true → w ≡ false
solid_head true k e = sym e
solid_head false k e = refl

-- a byte that stands for its run does so before the reduced rest too
stands_still : (a : Bool) (m : List ℕ) → stands_for_run a m ≡ true → stands_for_run a (reduced_from a m) ≡ true
unfolding stands_for_run reduced_from
stands_still a [] e = refl
stands_still a (c ∷ cs) e = rw (solid_head (white c) _ e) e

once_step : (a : Bool) (b : ℕ) (bs : List ℕ) (w s : Bool) → white b ≡ w → stands_for_run a bs ≡ s → reduced_from a (reduced_from a bs) ≡ reduced_from a bs
    → reduced_from (opens b) (reduced_from (opens b) bs) ≡ reduced_from (opens b) bs → reduced_from a (reduced_from a (b ∷ bs)) ≡ reduced_from a (b ∷ bs)
unfolding reduced_from
once_step a b bs true true ew es p q = rw (ew, es, space_white) (rw (stands_still a bs es, p))
once_step a b bs true false ew es p q = rw (ew, es) p
once_step a b bs false s ew es p q = rw ew (rw (ew, q))

once_from : (a : Bool) (m : List ℕ) → reduced_from a (reduced_from a m) ≡ reduced_from a m
unfolding reduced_from
once_from a [] = refl
once_from a (b ∷ bs) = once_step a b bs (white b) (stands_for_run a bs) refl refl (once_from a bs) (once_from (opens b) bs)

pub once_is_enough : (m : List ℕ) → reduced (reduced m) ≡ reduced m
unfolding reduced
once_is_enough m = once_from false m

-- NOTHING BUT WHITE SPACE IS CHANGED

-- the bytes that are not white space, in their order
unfoldable pub solid : List ℕ → List ℕ
solid [] = []
solid (b ∷ bs) = kept (white b) false b (solid bs)

solid_step : (a : Bool) (b : ℕ) (bs : List ℕ) (w s : Bool) → white b ≡ w → stands_for_run a bs ≡ s → solid (reduced_from a bs) ≡ solid bs
    → solid (reduced_from (opens b) bs) ≡ solid bs → solid (reduced_from a (b ∷ bs)) ≡ solid (b ∷ bs)
unfolding reduced_from solid
solid_step a b bs true true ew es p q = rw (ew, es, space_white) p
solid_step a b bs true false ew es p q = rw (ew, es) p
solid_step a b bs false s ew es p q = rw (ew, ew, q)

solid_from : (a : Bool) (m : List ℕ) → solid (reduced_from a m) ≡ solid m
unfolding reduced_from solid
solid_from a [] = refl
solid_from a (b ∷ bs) = solid_step a b bs (white b) (stands_for_run a bs) refl refl (solid_from a bs) (solid_from (opens b) bs)

pub same_solid : (m : List ℕ) → solid (reduced m) ≡ solid m
unfolding reduced
same_solid m = solid_from false m
