use Prim.Native.Nat.{◌*◌, ◌-◌, ◌/◌, ◌≤◌}
use lib.ListN.{length}
use Rattle.space.proofs.Part.{Partwise}
use Rattle.space.proofs.reduce.Given as goal

abbrev pub invariant-loop-k : goal.invariant-loop-k
invariant-loop-k l = (l.k ≤ (length l.msg - 1) / 16) × Partwise l.msg l.initial.buf l.buf l.n (16 * l.k)
