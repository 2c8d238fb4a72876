-- `route_places::place_change` meets its contract. Assumes nothing.
use mathlib.Core.Path.{◌∙◌}
use Rattle.route_places.proofs.Index.{changes_far}
use Rattle.route_places.proofs.place_change.Goals as goal

pub returns : goal.returns
returns c =
    c.place_pair.ensures ∙ changes_far c.args.w.now
