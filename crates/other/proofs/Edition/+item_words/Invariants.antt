use mathlib.Core.Path.{◌≡◌}
use Rattle.text.specs.Words.{after}
use Rattle.other.specs.Stated.{stated}
use Rattle.other.specs.Field18.{fit_more}
use Prim.Native.Nat.{◌-◌, ◌≤◌}
use lib.ListN.{length, drop}
use Rattle.other.proofs.Edition.+item_words.Given as goal

abbrev pub invariant-words-loop-e : goal.invariant-words-loop-e
invariant-words-loop-e l = (l.end ≤ l.e) × (l.e ≤ length l.s)
    × (fit_more (stated l.self) l.k (after 32 (drop l.end l.s)) ≡ fit_more (stated l.self) l.k (after 32 (drop l.e l.s)))

abbrev pub decreases-words-loop-e : goal.decreases-words-loop-e
decreases-words-loop-e l = length l.s - l.e

abbrev pub decreases-item : goal.decreases-item
decreases-item l = length l.s.now - l.o

abbrev pub decreases-words : goal.decreases-words
decreases-words l = length l.s.now - l.end
