-- `aerodromes::four_letters` meets its contract. Assumes nothing.
use mathlib.Core.Path.{◌∙◌}
use lib.ListN.{length}
use Rattle.text.proofs.Tests.{exactly}
use Rattle.aerodromes.specs.Aerodromes.{four_letters}
use Rattle.aerodromes.proofs.four_letters.Goals as goal

pub returns : goal.returns
unfolding four_letters
returns c =
    c.some_of.ensures ∙ exactly 4 (length c.args.w.now) _
