use mathlib.Core.Path.{◌≡◌}
use Prim.Native.Nat.{◌+◌, ◌*◌, ◌^◌, ◌≤◌}
use lib.ListN.{length, take}
use Rattle.shape.specs.Numbers.{value}
use Rattle.shape.proofs.number.Given as goal

abbrev pub invariant-loop-b : goal.invariant-loop-b
invariant-loop-b l = (l.b-index ≤ length l.digits) × (l.n ≡ value (take l.b-index l.digits)) × (l.n + 23 ≤ 23 * 10 ^ l.b-index)
