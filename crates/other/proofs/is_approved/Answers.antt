-- `other::is_approved` meets its contract. Assumes nothing.
use mathlib.Core.Path.{◌∙◌}
use Rattle.other.proofs.Texts.{approved_bytes}
use Rattle.other.proofs.is_approved.Goals as goal

pub returns : goal.returns
returns c =
    c.fit.ensures ∙ rw (c.approvals.ensures.value.0, c.approvals.ensures.value.1) (approved_bytes c.args.w.now)
