-- `aerodromes::fits_field13_open` meets its contract. Assumes nothing.
use mathlib.Core.Path.{sym, ◌∙◌}
use Rattle.shape.proofs.Times.{by_time}
use Rattle.aerodromes.proofs.Index.{open_alone, open_joined}
use Rattle.aerodromes.proofs.fits_field13_open.Goals as goal

pub returns-then-four_letters : goal.returns-then-four_letters
returns-then-four_letters c =
    sym (open_alone c.args.s.now (sym c.four_letters.ensures ∙ c.if-four_letters.true))

pub returns : goal.returns
returns c =
    let four = sym c.four_letters.ensures ∙ c.if-four_letters.false in
    by_time _ c.at_clock.ensures c.is_time_of_day.ensures ∙ sym (open_joined c.args.s.now four)
