-- `route::point` meets its contract. Assumes nothing.
use mathlib.Core.Path.{sym, ◌∙◌}
use Rattle.route.proofs.Signs.{no_point}
use Rattle.route.proofs.point.Goals as goal

pub returns-then-not-all_of : goal.returns-then-not-all_of
returns-then-not-all_of c =
    sym (no_point _ _ (sym c.all_of.ensures ∙ c.if-not-all_of.true))
