use Rattle.message.specs.Ends.{Noted}
use Prim.Native.Nat.{◌≤◌}
use lib.ListN.{length}
use Rattle.message.proofs.note_each.Given as goal

abbrev pub invariant-loop-i : goal.invariant-loop-i
invariant-loop-i l = (l.i ≤ l.to) × (l.to ≤ length l.s) × Noted l.s l.ends l.noted l.i
