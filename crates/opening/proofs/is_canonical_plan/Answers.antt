-- `opening::is_canonical_plan` meets its contract. Assumes nothing.
use mathlib.Core.Path.{◌∙◌}
use Rattle.opening.proofs.Steps.{plan_itself_lem}
use Rattle.opening.proofs.is_canonical_plan.Goals as goal

pub returns : goal.returns
returns c =
    c.is_plan_itself.ensures ∙ plan_itself_lem c.args.strip.now
