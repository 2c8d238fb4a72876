use mathlib.Core.Path.{◌≡◌}
use Prim.Native.Nat.{◌+◌, ◌≤◌}
use mathlib.Core.Bool.{false}
use lib.ListN.{length, drop}
use Rattle.space.specs.Places.{sent_from, in_run}
use Rattle.space.proofs.sent_from.Given as goal

abbrev pub invariant-loop-i : goal.invariant-loop-i
invariant-loop-i l = (l.at ≤ l.i) × (l.i ≤ length l.msg) × (l.at + sent_from false l.n (drop l.at l.msg) ≡ l.i + sent_from (in_run l.msg l.at l.i) l.left
    (drop l.i l.msg))
