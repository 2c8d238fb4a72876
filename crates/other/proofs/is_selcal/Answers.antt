-- `other::is_selcal` meets its contract. Assumes nothing.
use mathlib.Core.Path.{◌∙◌}
use lib.ListN.{length}
use Rattle.text.proofs.Tests.{exactly}
use Rattle.other.proofs.is_selcal.Goals as goal

pub returns : goal.returns
returns c =
    c.some_of.ensures ∙ exactly 4 (length c.args.w.now) _
