-- `dates::is_behind` meets its contract. Assumes nothing.
use Rattle.other.specs.Rules.{base}
use Rattle.dates.specs.Dates.{keys_behind}
use Rattle.dates.proofs.is_behind.Goals as goal

pub returns : goal.returns
unfolding base keys_behind
returns c =
    c.in_cells.ensures
