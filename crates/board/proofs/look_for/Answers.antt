-- `board::look_for` meets its contract. Assumes nothing.
use Rattle.std.specs.Prelude.{Err}
use mathlib.Core.Path.{sym, ap, ◌∙◌}
use Rattle.board.specs.Turns.{looked_as}
use Rattle.board.proofs.look_for.Goals as goal

pub returns-in-None : goal.returns-in-None
returns-in-None c =
    ap Err c.of.ensures ∙ sym (ap looked_as (sym c.held_in.ensures ∙ c.in-None.is))

pub returns-in-Some : goal.returns-in-Some
returns-in-Some c =
    sym (ap looked_as (sym c.held_in.ensures ∙ c.in-Some.is))
