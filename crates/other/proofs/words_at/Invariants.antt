use lib.ListN.{length, drop}
use Prim.Native.Nat.{◌-◌, ◌≤◌}
use mathlib.Core.Path.{◌≡◌}
use Rattle.text.specs.Words.{split}
use Rattle.other.specs.Field18.{group, from_key}
use Rattle.other.proofs.words_at.Given as goal

abbrev pub invariant-loop-w : goal.invariant-loop-w
invariant-loop-w l = (l.at ≤ length l.s) × (from_key l.key (group (split 32 l.s)).grouped ≡ from_key l.key (group (split 32 (drop l.at l.s))).grouped)

abbrev pub decreases-loop-w : goal.decreases-loop-w
decreases-loop-w l = length l.s - l.at
