-- `other_places::status_place` meets its contract. Assumes nothing.
use Rattle.other.specs.Rules.{statuses}
use Rattle.other_places.proofs.status_place.Goals as goal

pub returns : goal.returns
unfolding statuses
returns c =
    c.any_of.ensures
