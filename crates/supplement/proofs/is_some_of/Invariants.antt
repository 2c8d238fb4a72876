use mathlib.Core.Path.{◌≡◌}
use lib.ListN.{length}
use Rattle.supplement.specs.Field19.{letters_fit}
use Rattle.supplement.proofs.is_some_of.Given as goal

abbrev pub invariant-loop-rest : goal.invariant-loop-rest
invariant-loop-rest l = letters_fit l.set l.w ≡ letters_fit l.set l.rest

abbrev pub decreases-loop-rest : goal.decreases-loop-rest
decreases-loop-rest l = length l.rest
