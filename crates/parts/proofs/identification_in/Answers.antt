-- `parts::identification_in` meets its contract. Assumes nothing.
use mathlib.Core.Path.{ap}
use Rattle.parts.specs.Parts.{span_of}
use Rattle.parts.proofs.identification_in.Goals as goal

pub returns : goal.returns
returns c =
    ap (span_of c.args.from) c.identification-who.ensures
