use Prim.Native.Nat.{◌+◌, ◌-◌, ◌≤◌}
use mathlib.Core.Path.{◌≡◌}
use lib.ListN.{length, drop}
use Rattle.text.specs.Words.{split, join}
use Rattle.canonical.specs.Rewriting.{rewritten, rewritten_text}
use Rattle.canonical.proofs.words_length.Given as goal

abbrev pub invariant-loop-stage : goal.invariant-loop-stage
invariant-loop-stage l = (l.at ≤ length l.s) × (l.n ≤ l.at) × (l.n + length (join 32 (rewritten l.stage (split 32 (drop l.at l.s))))
    ≡ length (rewritten_text l.s))

abbrev pub decreases-loop-stage : goal.decreases-loop-stage
decreases-loop-stage l = length l.s - l.at
