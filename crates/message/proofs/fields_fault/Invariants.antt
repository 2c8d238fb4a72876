use Prim.Native.Nat.{◌-◌}
use mathlib.Core.Path.{◌≡◌}
use lib.ListN.{length}
use Rattle.text.specs.Words.{split}
use Rattle.kinds.specs.declared.MessageType.{MessageType}
use Rattle.kinds.specs.Kinds.{forms_of, RowFor}
use Rattle.message.specs.Ends.{start_in}
use Rattle.message.proofs.Walk.{Walked}
use Rattle.message.proofs.fields_fault.Given as goal

abbrev pub invariant-loop-number : goal.invariant-loop-number
invariant-loop-number l =
    ((t : MessageType) → RowFor t l.count l.row → length (forms_of t l.count) ≡ length (split 45 l.s) → Walked t l.count l.s l.seen l.at l.j)
    × (l.at ≡ start_in l.ends l.j)

abbrev pub decreases-loop-number : goal.decreases-loop-number
decreases-loop-number l = length l.s - l.at
