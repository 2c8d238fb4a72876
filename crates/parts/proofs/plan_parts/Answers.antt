-- `parts::plan_parts` meets its contract. Assumes nothing.
use mathlib.Core.Path.{refl, sym, ◌∙◌}
use Rattle.std.proofs.lemmas.Result.{err_from_is_err_and}
use Rattle.parts.proofs.Answers.{plan-whole}
use Rattle.parts.proofs.plan_parts.Goals as goal

pub plan_read-requires : goal.plan_read-requires
plan_read-requires c =
    sym c.read_own.ensures ∙ c.in_ok-t.was

pub returns-in_err-t : goal.returns-in_err-t
returns-in_err-t c =
    let p = err_from_is_err_and c.from_residual.result c.from_residual.ensures.1 in
    let told = plan-whole c.args.strip.now _ (sym c.read_own.ensures ∙ c.in_err-t.was) _ refl in
    record { value = rw (p.1, p.2) told.0; shows_plan = rw p.1 tt }

pub returns : goal.returns
returns c =
    let told = plan-whole c.args.strip.now _ (sym c.read_own.ensures ∙ c.in_ok-t.was) _ c.plan_read.ensures in record { value = told.0; shows_plan = told.1 }
