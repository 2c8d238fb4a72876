-- `route::SignWord::name` meets its contract. Assumes nothing.
use mathlib.Core.Path.{ap}
use mathlib.Core.Bool.{not}
use borrow.Author.Tests.{le-leb, lt-leb}
use Rattle.route.specs.Points.{name_fits}
use Rattle.route.proofs.SignWord.name.Goals as goal

pub returns-then-w-lt2 : goal.returns-then-w-lt2
unfolding name_fits
returns-then-w-lt2 c =
    rw (lt-leb _ _ c.if-w-lt2.true)

pub returns-then-most-w : goal.returns-then-most-w
unfolding name_fits
returns-then-most-w c =
    rw (le-leb 2 _ c.if-w-lt2.false, lt-leb _ _ c.if-most-w.true)

pub returns : goal.returns
unfolding name_fits
returns c =
    rw (le-leb 2 _ c.if-w-lt2.false, le-leb _ _ c.if-most-w.false, c.args.self.signs) (ap not c.is_indicator.ensures)
