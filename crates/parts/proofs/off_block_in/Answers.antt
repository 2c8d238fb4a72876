-- `parts::off_block_in` meets its contract. Assumes nothing.
use Rattle.aerodromes.proofs.Asked.{clock13}
use Rattle.parts.proofs.off_block_in.Goals as goal

pub returns : goal.returns
returns c =
    rw (c.unwrap_or.ensures, c.clock.ensures, clock13 c.args.thirteen.now c.requires)
