-- `board::strip_of` meets its contract. Assumes nothing.
use mathlib.Core.Path.{sym, ap, ◌∙◌}
use Rattle.std.specs.Prelude.{Option}
use Rattle.rooms.specs.declared.Firm.{Firm}
use Rattle.board.specs.Turns.{strip_to}
use Rattle.board.proofs.strip_of.Goals as goal

pub returns-in-None : goal.returns-in-None
returns-in-None c =
    let a = c.args in
    c.no_strip.ensures
    ∙ sym (ap (λ (w : Option Firm). strip_to w a.slot a.board.places a.bytes.now)
    (sym c.from_number.ensures ∙ c.in-None.is))

pub returns-in-Some : goal.returns-in-Some
returns-in-Some c =
    let a = c.args in
    c.strip_in.ensures
    ∙ sym (ap (λ (w : Option Firm). strip_to w a.slot a.board.places a.bytes.now)
    (sym c.from_number.ensures ∙ c.in-Some.is))
