-- `route::SignWord::point` meets its contract. Assumes nothing.
use mathlib.Core.Path.{◌≡◌, sym, ◌∙◌}
use mathlib.Core.Bool.{false}
use borrow.Author.Tests.{lt-ltb, le-ltb}
use Rattle.shape.specs.Shape.{fits, wide}
use Rattle.shape.proofs.Index.{fits_lengths}
use Rattle.route.specs.Points.{short, long, point_fits}
use Rattle.route.proofs.Signs.{short_name}
use Rattle.route.proofs.SignWord.point.Goals.{After-is_coordinate-2, Else-is_coordinate-2}
use Rattle.route.proofs.SignWord.point.Goals as goal

no-degrees : (c : After-is_coordinate-2) → fits (wide short) c.args.self.bytes.now ≡ false
no-degrees c =
    sym c.is_coordinate.ensures ∙ c.if-is_coordinate.false

-- where it is none
no-minutes : (c : Else-is_coordinate-2) → fits (wide long) c.args.self.bytes.now ≡ false
no-minutes c =
    sym c.is_coordinate-2.ensures ∙ c.if-is_coordinate-2.false

pub returns-then-w-lt7 : goal.returns-then-w-lt7
returns-then-w-lt7 c =
    c.name.ensures ∙ sym (short_name _ _ c.if-w-lt7.true)

pub in_degrees-requires : goal.in_degrees-requires
in_degrees-requires c =
    fits_lengths (wide short) c.args.self.bytes.now (sym c.is_coordinate.ensures ∙ c.if-is_coordinate.true)

pub returns-then-is_coordinate : goal.returns-then-is_coordinate
unfolding point_fits
returns-then-is_coordinate c =
    rw (sym c.is_coordinate.ensures ∙ c.if-is_coordinate.true) c.in_degrees.ensures

pub in_minutes-requires : goal.in_minutes-requires
in_minutes-requires c =
    fits_lengths (wide long) c.args.self.bytes.now (sym c.is_coordinate-2.ensures ∙ c.if-is_coordinate-2.true)

pub returns-then-is_coordinate-2 : goal.returns-then-is_coordinate-2
unfolding point_fits
returns-then-is_coordinate-2 c =
    rw (no-degrees (goal.at.returns-then-is_coordinate-2 c).After-is_coordinate-2, sym c.is_coordinate-2.ensures ∙ c.if-is_coordinate-2.true)
    c.in_minutes.ensures

pub returns-then-w-gt7 : goal.returns-then-w-gt7
unfolding point_fits
returns-then-w-gt7 c =
    rw (
      no-degrees (goal.at.returns-then-w-gt7 c).After-is_coordinate-2,
      no-minutes (goal.at.returns-then-w-gt7 c).Else-is_coordinate-2,
      lt-ltb 7 _
          c.if-w-gt7.true,
    ) c.with_bearing.ensures

pub returns : goal.returns
unfolding point_fits
returns c =
    rw (no-degrees (goal.at.returns c).After-is_coordinate-2, no-minutes (goal.at.returns c).Else-is_coordinate-2, le-ltb 7 _ c.if-w-gt7.false) c.name-2.ensures
