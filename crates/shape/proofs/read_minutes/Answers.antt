-- `shape::read_minutes` meets its contract. Assumes nothing.
use mathlib.Core.Path.{sym, ◌∙◌}
use Rattle.shape.proofs.Times.{counted}
use Rattle.shape.proofs.read_minutes.Goals as goal

pub minutes_of-requires : goal.minutes_of-requires
minutes_of-requires c =
    counted c.args.most c.args.w.now c.requires (sym c.is_time.ensures ∙ c.if-is_time.true)

pub returns-then-is_time : goal.returns-then-is_time
returns-then-is_time c =
    rw (sym c.is_time.ensures ∙ c.if-is_time.true, ← c.minutes_of.ensures)

pub returns-else-is_time : goal.returns-else-is_time
returns-else-is_time c =
    rw (sym c.is_time.ensures ∙ c.if-is_time.false)
