-- `other::is_status` meets its contract. Assumes nothing.
use Rattle.other.specs.Rules.{statuses}
use Rattle.other.proofs.is_status.Goals as goal

pub returns : goal.returns
unfolding statuses
returns c =
    c.in_cells.ensures
