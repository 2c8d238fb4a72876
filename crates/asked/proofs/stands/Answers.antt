-- `asked::stands` meets its contract. Assumes nothing.
use Rattle.std.specs.Prelude.{Some}
use Rattle.force.specs.InForce.{FoundIn}
use Rattle.force.proofs.Walk.{as_found}
use Rattle.asked.proofs.Steps.{in_change, in_strip}
use native.Mathlib.Omega.{arith}
use Rattle.asked.proofs.stands.Goals.{In-Some}
use Rattle.asked.proofs.stands.Goals as goal

found : (c : In-Some) → FoundIn c.args.said.now c.args.k (Some c.in-Some.at)
found c =
    as_found _ _ c.named.ensures c.in-Some.is

pub overflow_add-result : goal.overflow_add-result
overflow_add-result c =
    omega (arith, (found (goal.at.overflow_add-result c).In-Some).0, (found (goal.at.overflow_add-result c).In-Some).1, c.requires.1)

pub overflow_add-result-in-Some : goal.overflow_add-result-in-Some
overflow_add-result-in-Some c =
    omega (arith, (found (goal.at.overflow_add-result-in-Some c).In-Some).1, c.requires.1)

pub returns-in-Some : goal.returns-in-Some
returns-in-Some c =
    let a = c.args in let told = in_change a.plan.now a.said.now a.k _ (found (goal.at.returns-in-Some c).In-Some) in
    record { value = told.0; shows_text = told.1 }

pub returns-in-None : goal.returns-in-None
returns-in-None c =
    let a = c.args in let s = c.seek-c.ensures in let e = c.end-e.ensures in let nowhere = as_found _ _ c.named.ensures c.in-None.is in let told =
    in_strip a.plan.now a.said.now a.k _ _ nowhere s.0 s.1 e.value e.lower_bound.0 e.lower_bound.1 in record { value = told.0; shows_text = told.1 }
