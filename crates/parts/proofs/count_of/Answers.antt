-- `parts::count_of` meets its contract. Assumes nothing.
use mathlib.Core.Path.{sym, ◌∙◌}
use Rattle.parts.proofs.Fields.{count_none, count_one, count_two}
use Rattle.parts.proofs.count_of.Goals as goal

pub returns-then-w-eq0 : goal.returns-then-w-eq0
returns-then-w-eq0 c =
    sym (count_none c.args.w.now c.if-w-eq0.true)

pub returns-then-w-eq1 : goal.returns-then-w-eq1
returns-then-w-eq1 c =
    c.one.ensures.0 ∙ sym (count_one c.args.w.now c.if-w-eq1.true)

pub returns : goal.returns
returns c =
    c.two.ensures.0 ∙ sym (count_two c.args.w.now c.if-w-eq0.false c.requires c.if-w-eq1.false)
