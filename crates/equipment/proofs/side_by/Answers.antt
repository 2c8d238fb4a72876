-- `equipment::side_by` meets its contract. Assumes nothing.
use mathlib.Core.Path.{sym, ◌∙◌}
use Rattle.equipment.proofs.Laws.{side_bytes}
use Rattle.equipment.proofs.side_by.Goals as goal

pub returns-else-eq : goal.returns-else-eq
returns-else-eq c =
    rw (side_bytes, sym c.eq.ensures ∙ c.if-eq.false) c.fit_within.ensures
