-- `other_places::goes_on` meets its contract. Assumes nothing.
use mathlib.Core.Path.{sym, ap, ◌∙◌}
use borrow.Author.Tests.{lt-ltb, le-ltb, not-false}
use Rattle.other.specs.Rules.{single}
use Rattle.other_places.proofs.Index.{count_cells}
use Rattle.other_places.proofs.goes_on.Goals.{then-k-gt0, else-k-gt0}
use Rattle.other_places.proofs.goes_on.Goals as goal

pub returns-else-not-is_single : goal.returns-else-not-is_single
returns-else-not-is_single c =
    let a = c.args in
    elim c.if-k-gt0.branch [
      | then-k-gt0 w ↦
          let e = sym (ap single w.rule.ensures) ∙ sym w.is_single.ensures ∙ not-false _ (sym w.value-is ∙ c.if-not-is_single.false) in
          sym (rw (e, lt-ltb 0 a.k w.if-k-gt0.true, count_cells a.edition.keys.now))
      | else-k-gt0 w ↦ sym (rw (le-ltb 0 a.k w.if-k-gt0.false, count_cells a.edition.keys.now))
    ]
