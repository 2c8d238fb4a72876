-- `board::look` meets its contract. Assumes nothing.
use mathlib.Core.Path.{sym, ap, ◌∙◌}
use Rattle.std.specs.Prelude.{Option, Err}
use Rattle.rooms.specs.declared.Firm.{Firm}
use Rattle.board.specs.Turns.{looked_to}
use Rattle.board.proofs.look.Goals as goal

pub returns-in-None : goal.returns-in-None
returns-in-None c =
    let a = c.args in
    ap Err c.of.ensures ∙ sym (ap (λ (w : Option Firm). looked_to w a.slot a.board.places)
    (sym c.from_number.ensures ∙ c.in-None.is))

pub returns-in-Some : goal.returns-in-Some
returns-in-Some c =
    let a = c.args in
    c.look_for.ensures
    ∙ sym (ap (λ (w : Option Firm). looked_to w a.slot a.board.places) (sym c.from_number.ensures ∙ c.in-Some.is))
