use Prim.Native.Nat.{◌+◌, ◌-◌, ◌≤◌}
use mathlib.Core.Path.{◌≡◌}
use lib.ListN.{length, drop}
use Rattle.text.specs.Words.{split}
use Rattle.kinds.specs.Kinds.{forms_of}
use Rattle.message.specs.Reading.{spelled_from, lead_of}
use Rattle.message.proofs.Walk.{Even}
use Rattle.message.proofs.spelled_length.Given as goal

abbrev pub invariant-loop-t : goal.invariant-loop-t
invariant-loop-t l = (l.at ≤ length l.s) × (l.j ≤ l.at) × (l.n ≤ l.at) × Even l.t l.count l.s l.at l.j
    × (l.n + length (spelled_from (lead_of l.j) (drop l.j (forms_of l.t l.count)) (split 45 (drop l.at l.s)))
    ≡ length (spelled_from 40 (forms_of l.t l.count) (split 45 l.s)))

abbrev pub decreases-loop-t : goal.decreases-loop-t
decreases-loop-t l = length l.s - l.at
