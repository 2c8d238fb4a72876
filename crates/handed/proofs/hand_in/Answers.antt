-- `handed::hand_in` meets its contract. Assumes nothing.
use Rattle.handed.proofs.Steps.{none_handed, one_handed}
use Rattle.handed.proofs.hand_in.Goals as goal

pub returns-then-ne : goal.returns-then-ne
returns-then-ne c =
    none_handed c.args.n.now _ _ _ c.state_of-state.ensures c.state_numbers.ensures c.ne.ensures c.if-ne.true

pub returns : goal.returns
returns c =
    one_handed c.args.n.now _ _ _ c.state_of-state.ensures c.state_numbers.ensures c.ne.ensures c.if-ne.false
