-- `route::half` meets its contract. Assumes nothing.
use mathlib.Core.Path.{sym, ◌∙◌}
use borrow.Author.Tests.{eq-eqb}
use Rattle.route.proofs.Digits.{half_none, half_first, half_second}
use Rattle.route.proofs.half.Goals as goal

pub returns-then-last-one : goal.returns-then-last-one
returns-then-last-one c =
    eq-eqb _ _ c.if-last-one.true ∙ sym (half_first _ _ c.args.w.now (sym c.all_of.ensures ∙ c.if-all_of.true) c.if-last-one.true)

pub returns-else-last-one : goal.returns-else-last-one
returns-else-last-one c =
    sym (half_second _ _ c.args.w.now (sym c.all_of.ensures ∙ c.if-all_of.true) c.if-last-one.false)

pub returns-else-all_of : goal.returns-else-all_of
returns-else-all_of c =
    c.if-all_of.false ∙ sym (half_none _ _ (sym c.all_of.ensures ∙ c.if-all_of.false))
