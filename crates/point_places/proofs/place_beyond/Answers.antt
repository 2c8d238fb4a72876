-- `point_places::place_beyond` meets its contract. Assumes nothing.
use mathlib.Core.Path.{◌∙◌}
use Rattle.point_places.proofs.Index.{beyond_list}
use Rattle.point_places.proofs.place_beyond.Goals as goal

pub returns : goal.returns
returns c =
    c.farthest_row.ensures ∙ beyond_list c.args.w.now
