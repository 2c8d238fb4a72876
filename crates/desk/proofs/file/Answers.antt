-- `desk::file` meets its contract. Assumes nothing.
use mathlib.Core.Path.{refl, sym, ◌∙◌}
use Rattle.std.proofs.lemmas.Result.{err_from_is_err_and}
use Rattle.desk.proofs.Offers.{not_filed, other_type, filed}
use Rattle.desk.proofs.file.Goals as goal

pub returns-in_err-t : goal.returns-in_err-t
returns-in_err-t c =
    let p = err_from_is_err_and c.from_residual.result c.from_residual.ensures.1 in
    rw (p.1, p.2) (not_filed _ _ _ c.requires _ _ _ _ (sym c.read.ensures.0 ∙ c.in_err-t.was) refl)

pub returns-then-not-is_plan : goal.returns-then-not-is_plan
returns-then-not-is_plan c =
    rw c.of.ensures (other_type _ _ _ c.requires _ _ (sym c.read.ensures.0 ∙ c.in_ok-t.was) (sym c.is_plan.ensures ∙ c.if-not-is_plan.true))

pub returns : goal.returns
returns c =
    filed _ _ _ c.requires _ _ (sym c.read.ensures.0 ∙ c.in_ok-t.was) (sym c.is_plan.ensures ∙ c.if-not-is_plan.false) c.read.ensures.1
