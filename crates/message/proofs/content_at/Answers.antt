-- `message::content_at` meets its contract. Assumes nothing.
use Prim.Native.Nat.{◌+◌, ◌-◌, ◌<◌, ◌≤◌}
use mathlib.Core.Path.{sym}
use native.Mathlib.Omega.{arith}
use lib.ListN.{length, get_or}
use lib.Seq.{length-take-le}
use Rattle.message.proofs.Ends.{content_first, content_later, inside_first, inside_later}
use Rattle.message.proofs.content_at.Goals.{Else-j-eq0, Start}
use Rattle.message.proofs.content_at.Goals as goal

inside : (c : Start) → get_or c.args.ends.now c.args.j 0 ≤ length c.args.s.now
inside c =
    inside_first c.args.s.now c.args.ends.now c.requires.0 c.args.j c.requires.1

some : (c : Else-j-eq0) → 0 < c.args.j
some c =
    omega (arith, c.if-j-eq0.false)

later : (c : Else-j-eq0) → get_or c.args.ends.now (c.args.j - 1) 0 + 1 ≤ get_or c.args.ends.now c.args.j 0
later c =
    inside_later c.args.s.now c.args.ends.now c.requires.0 c.args.j c.requires.1 (some c)

pub offset_bounds-ends-j : goal.offset_bounds-ends-j
offset_bounds-ends-j c =
    omega (arith, c.requires.0.few, c.requires.1)

pub bounds-ends-j : goal.bounds-ends-j
bounds-ends-j c =
    omega (arith, c.requires.0.few, c.requires.1)

pub slice_bounds-result-end : goal.slice_bounds-result-end
slice_bounds-result-end c =
    sym (length-take-le _ _ (inside (goal.at.slice_bounds-result-end c).Start))

pub returns-then-j-eq0 : goal.returns-then-j-eq0
returns-then-j-eq0 c =
    content_first c.args.s.now c.args.ends.now c.requires.0 c.args.j c.requires.1 c.if-j-eq0.true

pub offset_bounds-ends-j-2 : goal.offset_bounds-ends-j-2
offset_bounds-ends-j-2 c =
    omega (arith, c.requires.0.few, c.requires.1)

pub bounds-ends-j-2 : goal.bounds-ends-j-2
bounds-ends-j-2 c =
    omega (arith, c.requires.0.few, c.requires.1)

pub overflow_add-at : goal.overflow_add-at
overflow_add-at c =
    omega (arith, later (goal.at.overflow_add-at c).Else-j-eq0, inside (goal.at.overflow_add-at c).Start, c.well_formed)

pub slice_bounds-result-count : goal.slice_bounds-result-count
slice_bounds-result-count c =
    later (goal.at.slice_bounds-result-count c).Else-j-eq0

pub slice_bounds-result-start : goal.slice_bounds-result-start
slice_bounds-result-start c =
    omega (arith, later (goal.at.slice_bounds-result-start c).Else-j-eq0)

pub slice_bounds-result-end-2 : goal.slice_bounds-result-end-2
slice_bounds-result-end-2 c =
    omega (arith, inside (goal.at.slice_bounds-result-end-2 c).Start)

pub returns : goal.returns
returns c =
    content_later c.args.s.now c.args.ends.now c.requires.0 c.args.j c.requires.1 (some (goal.at.returns c).Else-j-eq0)
