use Rattle.handlers.proofs.Walk.{makes}
use Rattle.handlers.proofs.make.Goals as goal

pub returns : goal.returns
returns g c = makes c.args.journal c.args.line.now c.args.board.places c.args.bytes.now c.requires c.args.call _ _ c.play-t.ensures
