-- `forms::fits_entry` meets its contract. Assumes nothing.
use mathlib.Core.Path.{◌∙◌}
use Rattle.text.proofs.Index.{rest}
use Rattle.forms.proofs.Index.{none_fit, rest_fits}
use Rattle.forms.proofs.fits_entry.Goals as goal

pub returns-then-o-s : goal.returns-then-o-s
returns-then-o-s c =
    none_fit _ _ c.find-o.ensures.value c.if-o-s.true

pub returns : goal.returns
returns c =
    let s = c.args.s.now in
    let f = c.find-o.ensures in
    c.fits_named.ensures ∙ rest_fits s _ f.value c.if-o-s.false f.lower_bound.1 _ _ c.rank_of_entry.ensures.0 (rest s _)
