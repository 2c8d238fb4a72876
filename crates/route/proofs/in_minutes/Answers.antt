-- `route::in_minutes` meets its contract. Assumes nothing.
use mathlib.Core.Path.{sym, ◌∙◌}
use Rattle.route.proofs.in_minutes.Goals as goal

pub returns-then-not-within : goal.returns-then-not-within
returns-then-not-within c =
    rw (sym c.two-2.ensures.0, sym c.two.ensures.0, sym c.within.ensures ∙ c.if-not-within.true)

pub returns : goal.returns
returns c =
    rw (
      sym c.two-2.ensures.0,
      sym c.two.ensures.0,
      sym c.within.ensures ∙ c.if-not-within.false,
      sym c.three.ensures.0,
      sym c.two-3.ensures.0,
    )
    c.within-2.ensures
