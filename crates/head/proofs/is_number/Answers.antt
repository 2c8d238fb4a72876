-- `head::is_number` meets its contract. Assumes nothing.
use mathlib.Core.Path.{sym, ◌∙◌}
use Rattle.text.proofs.Index.{found, found_none, found_before, found_behind, rest}
use Rattle.head.specs.Field3.{number_fits}
use Rattle.head.proofs.is_number.Goals as goal

pub returns-then-o-w : goal.returns-then-o-w
unfolding number_fits
returns-then-o-w c =
    let a = c.args in rw (found_none 47 a.w.now _ c.find-o.ensures.value c.if-o-w.true)

pub returns-then-not-is_unit : goal.returns-then-not-is_unit
unfolding number_fits
returns-then-not-is_unit c =
    let w = c.args.w.now in
    let f = c.find-o.ensures in
    rw (found 47 w _ f.value c.if-o-w.false f.lower_bound.1, ← found_before 47 w _ f.value, sym c.is_unit.ensures ∙ c.if-not-is_unit.true)

pub returns : goal.returns
unfolding number_fits
returns c =
    let w = c.args.w.now in
    let f = c.find-o.ensures in
    rw (
      found 47 w _ f.value c.if-o-w.false f.lower_bound.1,
      ← found_before 47 w _ f.value,
      sym c.is_unit.ensures ∙ c.if-not-is_unit.false,
      ← found_behind 47 w _ f.value,
    ) (rw rest at c.is_receiver.ensures)
