-- `shape::one_of` meets its contract. Assumes nothing.
use mathlib.Core.Path.{◌∙◌}
use Rattle.shape.proofs.Index.{contained}
use Rattle.shape.proofs.one_of.Goals as goal

pub returns : goal.returns
returns c = c.contains.ensures.value ∙ contained c.args.b c.args.set.now
