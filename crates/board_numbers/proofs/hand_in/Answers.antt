-- `board_numbers::hand_in` meets its contract. Assumes nothing.
use Rattle.board_numbers.proofs.Steps.{none_handed, one_handed}
use Rattle.board_numbers.proofs.hand_in.Goals as goal

pub returns-then-ne : goal.returns-then-ne
returns-then-ne c =
    none_handed c.args.numbers.now _ _ _ c.places_of-board.ensures c.put_board.ensures c.ne.ensures c.if-ne.true

pub returns : goal.returns
returns c =
    one_handed c.args.numbers.now _ _ _ c.places_of-board.ensures c.put_board.ensures c.ne.ensures c.if-ne.false
