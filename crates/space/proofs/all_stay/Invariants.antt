use Prim.Native.Nat.{◌≤◌}
use mathlib.Core.Path.{◌≡◌}
use lib.ListN.{length, drop}
use Rattle.space.specs.Stays.{all_stay}
use Rattle.space.proofs.all_stay.Given as goal

abbrev pub invariant-loop-i : goal.invariant-loop-i
invariant-loop-i l = (l.i ≤ length l.s) × (all_stay l.last (drop l.i l.s) ≡ all_stay l.ahead l.s)
