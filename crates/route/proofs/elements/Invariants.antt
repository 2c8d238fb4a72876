use mathlib.Core.Path.{◌≡◌}
use Prim.Native.Nat.{◌-◌, ◌≤◌}
use lib.ListN.{length, drop}
use Rattle.text.specs.Words.{split}
use Rattle.route.specs.Field15.{route_fits}
use Rattle.route.proofs.elements.Given as goal

abbrev pub invariant-loop-w : goal.invariant-loop-w
invariant-loop-w l = (l.at ≤ length l.s) × (route_fits (split 32 (drop l.from l.s)) ≡ route_fits (split 32 (drop l.at l.s)))

abbrev pub decreases-loop-w : goal.decreases-loop-w
decreases-loop-w l = length l.s - l.at
