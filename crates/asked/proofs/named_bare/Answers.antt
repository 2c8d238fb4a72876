-- `asked::named_bare` meets its contract. Assumes nothing.
use mathlib.Core.Path.{◌∙◌}
use Rattle.std.specs.Prelude.{Some}
use Rattle.force.specs.InForce.{FoundIn}
use Rattle.force.proofs.Walk.{as_found}
use Rattle.asked.proofs.Steps.{bare_there, bare_nowhere}
use Rattle.asked.proofs.named_bare.Goals.{In-Some}
use Rattle.asked.proofs.named_bare.Goals as goal

found : (c : In-Some) → FoundIn c.args.said.now c.args.k (Some c.in-Some.at)
found c =
    as_found _ _ c.named.ensures c.in-Some.is

pub slice_bounds-is_bare-count : goal.slice_bounds-is_bare-count
slice_bounds-is_bare-count c =
    (found (goal.at.slice_bounds-is_bare-count c).In-Some).0

pub slice_bounds-is_bare-start : goal.slice_bounds-is_bare-start
slice_bounds-is_bare-start c =
    (found (goal.at.slice_bounds-is_bare-start c).In-Some).0

pub slice_bounds-is_bare-end : goal.slice_bounds-is_bare-end
slice_bounds-is_bare-end c =
    (found (goal.at.slice_bounds-is_bare-end c).In-Some).1

pub returns-in-Some : goal.returns-in-Some
returns-in-Some c =
    let a = c.args in
    c.is_bare.ensures ∙ bare_there a.said.now a.k _ (found (goal.at.returns-in-Some c).In-Some)

pub returns-in-None : goal.returns-in-None
returns-in-None c =
    let a = c.args in
    bare_nowhere a.said.now a.k (as_found _ _ c.named.ensures c.in-None.is)
