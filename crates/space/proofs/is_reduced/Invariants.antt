use Prim.Native.Nat.{◌*◌, ◌-◌, ◌/◌, ◌≤◌}
use mathlib.Core.Path.{◌≡◌}
use lib.ListN.{length, drop}
use Rattle.space.specs.Stays.{all_stay}
use Rattle.space.proofs.is_reduced.Given as goal

abbrev pub invariant-loop-k : goal.invariant-loop-k
invariant-loop-k l = (l.k ≤ (length l.msg - 1) / 16) × (all_stay l.last (drop (16 * l.k) l.msg) ≡ all_stay 0 l.msg)
