-- `route::out_of_range` meets its contract. Assumes nothing.
use mathlib.Core.Path.{sym, ◌∙◌}
use Rattle.shape.specs.Shape.{wide}
use Rattle.shape.proofs.Index.{fits_lengths}
use Rattle.route.specs.Points.{short, out_of_range}
use Rattle.route.proofs.out_of_range.Goals as goal

pub returns-then-not-is_coordinate : goal.returns-then-not-is_coordinate
unfolding out_of_range
returns-then-not-is_coordinate c =
    rw (sym c.is_coordinate.ensures ∙ c.if-not-is_coordinate.true)

pub in_degrees-requires : goal.in_degrees-requires
in_degrees-requires c =
    let w = c.args.w.now in
    fits_lengths (wide short) w (sym c.is_coordinate.ensures ∙ c.if-not-is_coordinate.false)

pub returns : goal.returns
unfolding out_of_range
returns c =
    rw (sym c.is_coordinate.ensures ∙ c.if-not-is_coordinate.false, c.in_degrees.ensures)
