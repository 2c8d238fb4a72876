use lib.ListN.{length, drop}
use mathlib.Core.Path.{◌≡◌}
use Prim.Native.Nat.{◌+◌, ◌≤◌}
use Rattle.space.specs.Hyphens.{hyphens}
use Rattle.space.proofs.few_hyphens.Given as goal

abbrev pub invariant-loop-b : goal.invariant-loop-b
invariant-loop-b l = (l.n ≤ l.b-index) × (l.b-index ≤ length l.s) × (l.n + hyphens (drop l.b-index l.s) ≡ hyphens l.s)
