use Rattle.std.proofs.Common.{length, arith, ap}
use Rattle.pieces.proofs.Walk.{front_piece, no_front}
use Rattle.pieces.proofs.PiecesIterator.next.Goals as goal

pub returns-then-left-from-clause-steps : goal.returns-then-left-from-clause-steps
returns-then-left-from-clause-steps c =
    let none = no_front c.args.self.now.left.now _ c.skip_white-from.ensures c.if-left-from.true in
    (none, none)

pub returns-clause-steps : goal.returns-clause-steps
returns-clause-steps c = front_piece c.args.self.now.left.now _ _ c.skip_white-from.ensures c.if-left-from.false c.piece_end-e.ensures

pub returns-clause-goes : goal.returns-clause-goes
returns-clause-goes c =
    let met = front_piece c.args.self.now.left.now _ _ c.skip_white-from.ensures c.if-left-from.false c.piece_end-e.ensures in
    record { on = λ _. (tt, tt, omega (arith, ap length met)); keeps = tt; rests = λ _. tt }
