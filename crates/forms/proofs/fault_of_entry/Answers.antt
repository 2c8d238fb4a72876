-- `forms::fault_of_entry` meets its contract. Assumes nothing.
use mathlib.Core.Path.{sym, ap, ◌∙◌}
use Rattle.forms.specs.Forms.{judged}
use Rattle.forms.proofs.Faults.{right, wrong}
use Rattle.forms.proofs.fault_of_entry.Goals as goal

pub returns-then-fits_entry : goal.returns-then-fits_entry
returns-then-fits_entry c =
    let n = sym c.is_numbered.ensures ∙ c.if-not-is_numbered.false in
    ap judged (right _ _ n (λ e. c.if-rank_of_entry-eq0.false (c.rank_of_entry.ensures.0 ∙ e)) c.if-again.false
    (sym c.fits_entry.ensures ∙ c.if-fits_entry.true))

pub returns : goal.returns
returns c =
    let n = sym c.is_numbered.ensures ∙ c.if-not-is_numbered.false in
    ap judged (wrong _ _ n (λ e. c.if-rank_of_entry-eq0.false (c.rank_of_entry.ensures.0 ∙ e)) c.if-again.false
    (sym c.fits_entry.ensures ∙ c.if-fits_entry.false))
