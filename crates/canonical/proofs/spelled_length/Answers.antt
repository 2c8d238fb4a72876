-- `canonical::spelled_length` meets its contract. Assumes nothing.
use mathlib.Core.Path.{sym, ap, ◌∙◌}
use lib.ListN.{length}
use Rattle.canonical.proofs.Written.{written_other}
use Rattle.canonical.proofs.Rewritten.{written_words}
use Rattle.canonical.proofs.spelled_length.Goals as goal

pub returns-then-not-fits_field19 : goal.returns-then-not-fits_field19
returns-then-not-fits_field19 c =
    sym (ap length (written_other c.args.s.now (sym c.fits_field19.ensures ∙ c.if-not-fits_field19.true)))

pub returns : goal.returns
returns c =
    let f = sym c.fits_field19.ensures ∙ c.if-not-fits_field19.false in
    c.words_length.ensures ∙ sym (ap length (written_words c.args.s.now f))
