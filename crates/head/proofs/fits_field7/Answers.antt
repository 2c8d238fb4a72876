-- `head::fits_field7` meets its contract. Assumes nothing.
use mathlib.Core.Path.{sym, ◌∙◌}
use Rattle.text.proofs.Index.{found, found_none, found_before, found_behind, rest}
use Rattle.head.specs.Field7.{fits7}
use Rattle.head.proofs.fits_field7.Goals as goal

pub returns-then-o-s : goal.returns-then-o-s
unfolding fits7
returns-then-o-s c =
    rw (found_none 47 c.args.s.now _ c.find-o.ensures.value c.if-o-s.true) c.is_identification.ensures

pub returns-then-not-is_identification : goal.returns-then-not-is_identification
unfolding fits7
returns-then-not-is_identification c =
    let s = c.args.s.now in
    let f = c.find-o.ensures in
    rw (found 47 s _ f.value c.if-o-s.false f.lower_bound.1, ← found_before 47 s _ f.value, sym c.is_identification-2.ensures ∙ c.if-not-is_identification.true)

pub returns : goal.returns
unfolding fits7
returns c =
    let s = c.args.s.now in
    let f = c.find-o.ensures in
    rw (
      found 47 s _ f.value c.if-o-s.false f.lower_bound.1,
      ← found_before 47 s _ f.value,
      sym c.is_identification-2.ensures ∙ c.if-not-is_identification.false,
      ← found_behind 47 s _ f.value,
    ) (rw rest at c.fits.ensures)
