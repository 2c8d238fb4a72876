-- `other_places::approvals_place` meets its contract. Assumes nothing.
use mathlib.Core.Path.{refl, ◌∙◌}
use Rattle.other_places.proofs.approvals_place.Goals as goal

pub returns : goal.returns
returns c =
    c.codes_place.ensures ∙ rw (c.approvals.ensures.value.0, c.approvals.ensures.value.1) refl
