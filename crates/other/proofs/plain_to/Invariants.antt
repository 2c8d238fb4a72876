use Prim.Native.Nat.{◌+◌, ◌-◌, ◌<◌, ◌≤◌}
use mathlib.Core.Path.{◌≡◌}
use mathlib.Core.Bool.{true}
use lib.ListN.{length, take, drop}
use Rattle.other.specs.Plain.{all_plain}
use Rattle.other.proofs.plain_to.Given as goal

abbrev pub invariant-loop-i : goal.invariant-loop-i
invariant-loop-i l = (l.from ≤ l.i) × (l.i ≤ length l.s) × (l.from < l.i → l.i < length l.s) × (all_plain (take (l.i + 1 - l.from) (drop l.from l.s)) ≡ true)

abbrev pub decreases-loop-i : goal.decreases-loop-i
decreases-loop-i l = length l.s - l.i
