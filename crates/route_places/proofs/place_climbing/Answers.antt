-- `route_places::place_climbing` meets its contract. Assumes nothing.
use mathlib.Core.Path.{◌∙◌}
use Rattle.route_places.proofs.Index.{climbs_far}
use Rattle.route_places.proofs.place_climbing.Goals as goal

pub returns : goal.returns
returns c =
    c.place_pair.ensures ∙ climbs_far c.args.w.now
