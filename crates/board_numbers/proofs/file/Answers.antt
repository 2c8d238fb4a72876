-- `board_numbers::file` meets its contract. Assumes nothing.
use mathlib.Core.Path.{sym, ◌∙◌}
use Rattle.rooms.specs.Rooms.Act.{file}
use Rattle.board_numbers.proofs.Steps.{call_taken, call_not, board_taken, no_board}
use Rattle.board_numbers.proofs.file.Goals as goal

pub returns-in_default : goal.returns-in_default
returns-in_default c =
    let a = c.args in
    call_not (file c.args.msg.now) a.firm c.byte_of-by.result a.numbers.now a.strips.now c.byte_of-by.ensures c.not_board.result _ _
    (no_board a.numbers.now _ (sym c.hand_in.ensures ∙ c.in_default.is)) c.not_board.ensures c.tell.ensures.0 c.tell.ensures.1

pub returns : goal.returns
returns c =
    let a = c.args in
    let h = board_taken a.numbers.now c.in-Ok.board (sym c.hand_in.ensures ∙ c.in-Ok.is) in
    call_taken (file c.args.msg.now) a.firm c.byte_of-by.result a.numbers.now a.strips.now c.byte_of-by.ensures c.in-Ok.board.places c.file-t.result _ _ _ _
    h.1 h.0 c.file-t.ensures c.put_board.ensures c.tell-2.ensures.0 c.tell-2.ensures.1
