-- `parts::elapsed_of` meets its contract. Assumes nothing.
use Rattle.aerodromes.proofs.Asked.{elapsed16plan}
use Rattle.parts.proofs.elapsed_of.Goals as goal

pub returns : goal.returns
returns c =
    rw (c.unwrap_or.ensures, c.elapsed.ensures, elapsed16plan c.args.sixteen.now c.requires)
