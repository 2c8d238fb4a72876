-- `board_numbers::held_of` meets its contract. Assumes nothing.
use Rattle.board_numbers.proofs.Rows.{none_held, one_held}
use Rattle.board_numbers.proofs.held_of.Goals as goal

pub returns-then-row-eq0 : goal.returns-then-row-eq0
returns-then-row-eq0 c =
    none_held c.args.row.now c.if-row-eq0.true

pub returns : goal.returns
returns c =
    one_held c.args.row.now c.if-row-eq0.false _ _ c.state_of-state.ensures c.length_of.ensures
