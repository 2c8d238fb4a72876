-- `route::SignWord::word` meets its contract. Assumes nothing.
use mathlib.Core.Path.{sym, ◌∙◌}
use Rattle.route.proofs.SignWord.word.Goals as goal

pub returns-then-eq : goal.returns-then-eq
returns-then-eq c =
    rw (sym c.eq.ensures ∙ c.if-eq.true)

pub returns-then-is_indicator : goal.returns-then-is_indicator
returns-then-is_indicator c =
    rw (sym c.eq.ensures ∙ c.if-eq.false, sym c.is_indicator.ensures ∙ c.if-is_indicator.true)

pub returns : goal.returns
returns c =
    rw (sym c.eq.ensures ∙ c.if-eq.false, sym c.is_indicator.ensures ∙ c.if-is_indicator.false)
    c.point.ensures
