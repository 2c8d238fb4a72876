use Prim.Native.Nat.{◌+◌, ◌*◌, ◌≤◌}
use mathlib.Core.Path.{◌≡◌}
use lib.ListN.{length, drop}
use Rattle.space.specs.Hyphens.{hyphens}
use Rattle.space.proofs.count_hyphens.Given as goal

abbrev pub invariant-loop-k : goal.invariant-loop-k
invariant-loop-k l = (224 * l.k ≤ length l.msg) × (l.n + hyphens (drop (224 * l.k) l.msg) ≡ hyphens l.msg)
