-- `route_places::place_start` meets its contract. Assumes nothing.
use mathlib.Core.Path.{◌∙◌}
use Rattle.route_places.proofs.Index.{starts_far}
use Rattle.route_places.proofs.place_start.Goals as goal

pub returns : goal.returns
returns c =
    c.farthest_of.ensures ∙ starts_far c.args.w.now
