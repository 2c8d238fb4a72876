-- `other::is_date` meets its contract. Assumes nothing.
use Rattle.shape.specs.Shape.{fits}
use Rattle.shape.proofs.Index.{fits_lengths}
use Rattle.other.specs.Rules.{date}
use Rattle.alphabet.specs.Text.{bytes}
use mathlib.Core.Path.{◌≡◌, sym, ◌∙◌}
use mathlib.Core.Bool.{true}
use lib.ListN.{length}
use borrow.Author.Tests.{le-leb, lt-leb}
use native.Mathlib.Omega.{arith}
use Rattle.other.proofs.is_date.Goals.{Else-not-fits}
use Rattle.other.proofs.is_date.Goals as goal

shaped : (c : Else-not-fits) → fits (bytes "999999") c.args.w.now ≡ true
shaped c =
    sym c.fits.ensures ∙ c.if-not-fits.false

long : (c : Else-not-fits) → length c.args.w.now ≡ 6
long c =
    fits_lengths (bytes "999999") c.args.w.now (shaped c)

pub returns-then-not-fits : goal.returns-then-not-fits
unfolding date
returns-then-not-fits c =
    rw (sym c.fits.ensures ∙ c.if-not-fits.true)

pub two-day-requires : goal.two-day-requires
two-day-requires c =
    omega (arith, long (goal.at.two-day-requires c).Else-not-fits)

pub returns-then-day-lt1 : goal.returns-then-day-lt1
unfolding date
returns-then-day-lt1 c =
    rw (shaped (goal.at.returns-then-day-lt1 c).Else-not-fits, ← c.two-day.ensures.0, lt-leb 1 _ c.if-day-lt1.true)

pub two-requires : goal.two-requires
two-requires c =
    omega (arith, long (goal.at.two-requires c).Else-not-fits)

pub two-requires-2 : goal.two-requires-2
two-requires-2 c =
    omega (arith, long (goal.at.two-requires-2 c).Else-not-fits)

pub returns : goal.returns
unfolding date
returns c =
    rw (shaped (goal.at.returns c).Else-not-fits, ← c.two-day.ensures.0, le-leb 1 _ c.if-day-lt1.false, c.days_in.ensures, c.two-2.ensures.0, c.two.ensures.0)
