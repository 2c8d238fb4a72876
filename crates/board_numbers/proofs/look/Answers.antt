-- `board_numbers::look` meets its contract. Assumes nothing.
use mathlib.Core.Path.{sym, ◌∙◌}
use Rattle.board_numbers.proofs.Steps.{look_taken, look_not, board_taken, no_board}
use Rattle.board_numbers.proofs.look.Goals as goal

pub returns-in_default : goal.returns-in_default
returns-in_default c =
    let a = c.args in
    look_not a.firm c.byte_of-by.result a.slot a.numbers.now a.strips.now c.byte_of-by.ensures c.not_board_look.result _ _
    (no_board a.numbers.now _ (sym c.hand_in.ensures ∙ c.in_default.is)) c.not_board_look.ensures c.tell_look.ensures.0 c.tell_look.ensures.1

pub returns : goal.returns
returns c =
    let a = c.args in
    let h = board_taken a.numbers.now c.in-Ok.board (sym c.hand_in.ensures ∙ c.in-Ok.is) in
    look_taken a.firm c.byte_of-by.result a.slot a.numbers.now a.strips.now c.byte_of-by.ensures c.in-Ok.board.places c.look.result c.start_of.result
    c.strip_of-part.result.now _ _ h.1 h.0 c.look.ensures c.start_of.ensures c.strip_of-part.ensures c.tell_look-2.ensures.0 c.tell_look-2.ensures.1
