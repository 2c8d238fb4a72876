use Prim.Native.Nat.{◌-◌}
use mathlib.Core.Path.{◌≡◌}
use lib.ListN.{length}
use Rattle.kinds.specs.declared.MessageType.{MessageType}
use Rattle.message.specs.Ends.{start_in}
use Rattle.message.proofs.Writing.{Given, Writing}
use Rattle.message.proofs.write_fields.Given as goal

abbrev pub invariant-loop-row : goal.invariant-loop-row
invariant-loop-row l = ((t : MessageType) → Given t l.count l.row l.s l.initial.out → Writing t l.count l.s l.initial.out l.out l.o l.at l.j)
    × (l.at ≡ start_in l.ends l.j)

abbrev pub decreases-loop-row : goal.decreases-loop-row
decreases-loop-row l = length l.s - l.at
