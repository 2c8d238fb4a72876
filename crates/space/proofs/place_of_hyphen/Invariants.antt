use lib.ListN.{length, drop}
use mathlib.Core.Path.{◌≡◌}
use Prim.Native.Nat.{◌+◌, ◌≤◌}
use Rattle.space.specs.Hyphens.{up_to_hyphen}
use Rattle.space.proofs.place_of_hyphen.Given as goal

abbrev pub invariant-loop-i : goal.invariant-loop-i
invariant-loop-i l = (l.i ≤ length l.msg) × (l.i + up_to_hyphen l.left (drop l.i l.msg) ≡ up_to_hyphen l.initial.left l.msg)
