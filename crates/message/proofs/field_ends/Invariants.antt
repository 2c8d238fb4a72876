use Prim.Native.Nat.{◌*◌}
use Rattle.message.specs.Ends.{Noted}
use Rattle.message.proofs.field_ends.Given as goal

abbrev pub invariant-loop-block : goal.invariant-loop-block
invariant-loop-block l = Noted l.s l.ends l.n (16 * l.block)
