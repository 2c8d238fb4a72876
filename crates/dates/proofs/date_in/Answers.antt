-- `dates::date_in` meets its contract. Assumes nothing.
use mathlib.Core.Path.{◌≡◌, sym, ◌∙◌}
use mathlib.Core.Bool.{true}
use native.Mathlib.Omega.{arith}
use Rattle.other.specs.Rules.{date}
use Rattle.dates.specs.Dates.{date_in}
use Rattle.dates.proofs.Dates.{date_long, day_none, day_known}
use Rattle.dates.proofs.date_in.Goals.{Else-not-word_fits}
use Rattle.dates.proofs.date_in.Goals as goal

is-date : (c : Else-not-word_fits) → date c.date_word-w.result.now ≡ true
is-date c =
    sym c.word_fits.ensures ∙ c.if-not-word_fits.false

pub returns-then-not-word_fits : goal.returns-then-not-word_fits
returns-then-not-word_fits c =
    day_none (date_in c.args.s.now) c.date_word-w.result.now c.date_word-w.ensures
    (sym c.word_fits.ensures ∙ c.if-not-word_fits.true)

pub two-requires : goal.two-requires
two-requires c =
    omega (arith, date_long c.date_word-w.result.now (is-date (goal.at.two-requires c).Else-not-word_fits))

pub two-requires-2 : goal.two-requires-2
two-requires-2 c =
    omega (arith, date_long c.date_word-w.result.now (is-date (goal.at.two-requires-2 c).Else-not-word_fits))

pub two-requires-3 : goal.two-requires-3
two-requires-3 c =
    omega (arith, date_long c.date_word-w.result.now (is-date (goal.at.two-requires-3 c).Else-not-word_fits))

pub returns : goal.returns
returns c =
    day_known (date_in c.args.s.now) c.date_word-w.result.now c.date_word-w.ensures (is-date (goal.at.returns c).Else-not-word_fits) _ _ _
    c.two.ensures.0 c.two-2.ensures.0 c.two-3.ensures.0
