-- `point_places::place_name` meets its contract. Assumes nothing.
use mathlib.Core.Path.{sym, ◌∙◌}
use lib.Seq.{length-take-le}
use Rattle.point_places.proofs.Index.{short_in_range}
use Rattle.point_places.specs.Points.{name_place}
use Rattle.point_places.proofs.place_name.Goals as goal

pub returns-then-w-lt7 : goal.returns-then-w-lt7
unfolding name_place
returns-then-w-lt7 c =
    rw (short_in_range c.args.w.now c.if-w-lt7.true) c.run_place.ensures

pub slice_bounds-out_of_range-end : goal.slice_bounds-out_of_range-end
slice_bounds-out_of_range-end c =
    sym (length-take-le 7 c.args.w.now c.if-w-lt7.false)

pub returns-then-out_of_range : goal.returns-then-out_of_range
unfolding name_place
returns-then-out_of_range c =
    rw (sym c.out_of_range.ensures ∙ c.if-out_of_range.true)

pub returns : goal.returns
unfolding name_place
returns c =
    rw (sym c.out_of_range.ensures ∙ c.if-out_of_range.false) c.run_place-2.ensures
