use lib.ListN.{length, take, drop}
use Prim.Native.Nat.{◌+◌, ◌-◌, ◌<◌, ◌≤◌}
use mathlib.Core.Path.{◌≡◌}
use mathlib.Core.List.{◌∷◌, ◌++◌}
use Rattle.text.specs.Words.{split}
use Rattle.other.specs.Field18.{words_from}
use Rattle.other.proofs.Keys.{further}
use Rattle.other.proofs.item_end.Given as goal

abbrev pub invariant-loop-e : goal.invariant-loop-e
invariant-loop-e l = (l.at ≤ l.e) × (l.e ≤ length l.s) × (l.e < length l.s → drop l.e l.s ≡ 32 ∷ drop (l.e + 1) l.s)
    × (take (l.e - l.at) (drop l.at l.s) ++ further (drop l.e l.s) ≡ words_from (split 32 (drop l.at l.s)))

abbrev pub decreases-loop-e : goal.decreases-loop-e
decreases-loop-e l = length l.s - l.e
