-- `other_places::cell_place` meets its contract. Assumes nothing.
use lib.ListN.{take}
use Rattle.other.specs.Stated.{stated}
use Rattle.other.specs.Rules.{rule_in}
use mathlib.Core.Path.{sym, ap, ◌∙◌}
use lib.Seq.{length-take-le}
use borrow.Author.Tests.{lt-ltb, le-ltb}
use Rattle.text.proofs.Index.{found_before}
use Rattle.entries.specs.Entries.{entry_place}
use Rattle.other_places.specs.Places.{keyed}
use Rattle.other_places.proofs.cell_place.Goals as goal

pub returns-then-j-k : goal.returns-then-j-k
returns-then-j-k c =
    let a = c.args in sym (rw (le-ltb a.k a.j c.if-j-k.true))

pub slice_bounds-key_place-end : goal.slice_bounds-key_place-end
slice_bounds-key_place-end c =
    sym (length-take-le _ _ c.find-e.ensures.lower_bound.1)

pub returns : goal.returns
returns c =
    let a = c.args in
    let key = found_before 32 a.cell.now c.find-e.result c.find-e.ensures.value in
    let placed = c.key_place.ensures
    ∙ ap (λ r. entry_place (keyed (take c.find-e.result a.cell.now) r) a.w.now) c.rule.ensures
    ∙ ap (λ v. entry_place (keyed v (rule_in (stated a.edition) a.j)) a.w.now) key in
    sym (rw (lt-ltb a.k a.j c.if-j-k.false) (sym placed))
