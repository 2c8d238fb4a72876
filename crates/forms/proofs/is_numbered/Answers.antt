-- `forms::is_numbered` meets its contract. Assumes nothing.
use lib.Seq.{length-take-le}
use mathlib.Core.Path.{sym, ◌∙◌}
use Rattle.forms.proofs.Index.{none_numbered, empty_numbered, long_numbered, short_numbered}
use Rattle.forms.proofs.is_numbered.Goals as goal

pub returns-then-o-s : goal.returns-then-o-s
returns-then-o-s c =
    none_numbered c.args.s.now _ c.find-o.ensures.value c.if-o-s.true

pub returns-then-o-lt1 : goal.returns-then-o-lt1
returns-then-o-lt1 c =
    let f = c.find-o.ensures in
    empty_numbered c.args.s.now _ f.value c.if-o-s.false f.lower_bound.1 c.if-o-lt1.true

pub returns-then-o-gt2 : goal.returns-then-o-gt2
returns-then-o-gt2 c =
    let s = c.args.s.now in
    let f = c.find-o.ensures in
    long_numbered s _ f.value c.if-o-s.false f.lower_bound.1 c.if-o-lt1.false c.if-o-gt2.true

pub slice_bounds-all_of-end : goal.slice_bounds-all_of-end
slice_bounds-all_of-end c =
    sym (length-take-le _ _ c.find-o.ensures.lower_bound.1)

pub returns : goal.returns
returns c =
    let s = c.args.s.now in
    let f = c.find-o.ensures in
    c.all_of.ensures ∙ short_numbered s _ f.value c.if-o-s.false f.lower_bound.1 c.if-o-lt1.false c.if-o-gt2.false
