-- `point_places::place_short` meets its contract. Assumes nothing.
use mathlib.Core.Path.{◌∙◌}
use Rattle.point_places.proofs.Index.{short_list}
use Rattle.point_places.proofs.place_short.Goals as goal

pub returns : goal.returns
returns c =
    c.farthest_row.ensures ∙ short_list c.args.w.now
