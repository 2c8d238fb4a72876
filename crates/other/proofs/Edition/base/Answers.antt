-- `other::Edition::base` meets its contract. Assumes nothing.
use mathlib.Core.Path.{refl}
use Rattle.other.specs.Rules.{base, sound_keys}
use Rattle.other.specs.Cells.{base_keys, base_marks}
use Rattle.other.proofs.Edition.base.Goals as goal

pub invariant_of-result : goal.invariant_of-result
unfolding sound_keys
invariant_of-result c =
    record { sound = refl }

pub returns : goal.returns
unfolding base base_keys base_marks
returns c =
    (refl, refl, refl)
