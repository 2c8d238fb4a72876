use Prim.Native.Nat.{◌-◌, ◌≤◌}
use mathlib.Core.Path.{◌≡◌}
use mathlib.Core.Bool.{true}
use lib.ListN.{length, drop}
use Rattle.text.proofs.Lent.{Writing}
use Rattle.text.specs.Words.{split, join}
use Rattle.supplement.specs.Walk.{walked}
use Rattle.canonical.specs.Rewriting.{rewritten, rewritten_text}
use Rattle.canonical.proofs.put_words.Given as goal

abbrev pub invariant-loop-w : goal.invariant-loop-w
invariant-loop-w l = (l.at ≤ length l.s) × (length l.out ≡ length l.initial.out) × Writing (rewritten_text l.s) l.initial.out l.out l.o
    (join 32 (rewritten l.stage (split 32 (drop l.at l.s))))
    × (walked l.stage (split 32 (drop l.at l.s)) ≡ true)

abbrev pub decreases-loop-w : goal.decreases-loop-w
decreases-loop-w l = length l.s - l.at
