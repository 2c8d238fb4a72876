use Prim.Native.Nat.{◌-◌, ◌<◌}
use mathlib.Core.Path.{◌≡◌}
use mathlib.Core.Bool.{◌&&◌}
use lib.ListN.{drop}
use Rattle.space.specs.Stays.{all_regular}
use Rattle.space.proofs.all_regular.Given as goal

abbrev pub invariant-loop-i : goal.invariant-loop-i
invariant-loop-i l = (0 < l.i) × (l.fine && all_regular (drop (l.i - 1) l.s) ≡ all_regular l.s)
