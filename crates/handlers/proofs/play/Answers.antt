use Rattle.handlers.proofs.Walk.{cleared}
use Rattle.handlers.proofs.play.Goals as goal

pub returns-in-Clear : goal.returns-in-Clear
returns-in-Clear c =
    cleared c.args.board.places c.args.bytes.now c.clear.result c.args.bytes.now c.args.call c.args.line.now
    _ _ c.in-Clear.is (c.clear.ensures c.args.bytes.now)
