-- `other::last_space` meets its contract. Assumes nothing.
use Rattle.std.proofs.Common.{rules}
use native.Mathlib.Omega.{arith}
use lib.Dec.{eqb}
use lib.ListN.{take, drop, get_or}
use borrow.Author.Tests.{tests}
use Prim.Native.Nat.{◌+◌, ◌-◌, ◌<◌}
use mathlib.Core.Path.{◌≡◌, ap, sym, ◌∙◌}
use Prim.Native.Nat.{ℕ}
use Rattle.std.proofs.lemmas.Iterator.Search.{position_from_yields_List}
use Rattle.std.proofs.lemmas.Iterator.Adapters.{YieldsList-from_rev_slice}
use Rattle.other.proofs.Plain.{found_back}
use Rattle.other.proofs.last_space.Goals.{In-Some}
use Rattle.other.proofs.last_space.Goals as goal

-- where the last space stands, counted from the end
found : (c : In-Some) → (c.in-Some.k < c.args.to + 1 - (c.args.from + 1)) × (get_or c.args.s.now (c.args.to + 1 - 1 - c.in-Some.k) 0 ≡ 32)
found c =
    let a = c.args in
    let back = position_from_yields_List (λ b. eqb b 32) _ _ c.position.result c.position.ensures.ran
    (YieldsList-from_rev_slice (take (a.to + 1 - (a.from + 1)) (drop (a.from + 1) a.s.now)) (search rules)) (λ x b q k. search (rules, tests)) in
    let h = c.requires.1 (omega (arith, c.requires.0, c.if-from-to.false)) in
    found_back a.s.now (a.from + 1) (a.to + 1) c.in-Some.k (omega (arith, c.requires.0)) (omega (arith, h)) c.position.result back c.in-Some.is

pub overflow_sub-result : goal.overflow_sub-result
overflow_sub-result c =
    omega (arith, (found (goal.at.overflow_sub-result c).In-Some).0)

pub returns-in-Some : goal.returns-in-Some
returns-in-Some c =
    let f = found (goal.at.returns-in-Some c).In-Some in
    let z : c.args.to + 1 - 1 - c.in-Some.k ≡ c.args.to - c.in-Some.k = omega arith in
    (omega (arith, f.0), omega (arith, f.0), λ h. sym (ap (λ (j : ℕ). get_or c.args.s.now j 0) z) ∙ f.1)
