-- `equipment::fits_field10` meets its contract. Assumes nothing.
use mathlib.Core.Path.{sym, ◌∙◌}
use Rattle.text.proofs.Index.{rest}
use Rattle.equipment.specs.Field10.{present}
use Rattle.equipment.proofs.Laws.{no_oblique, at_oblique}
use Rattle.equipment.proofs.fits_field10.Goals as goal

pub returns-then-o-s : goal.returns-then-o-s
returns-then-o-s c =
    let f = c.find_far-o in
    sym (no_oblique present c.args.s.now f.result f.ensures.value c.if-o-s.true)

pub returns-then-fits_side : goal.returns-then-fits_side
returns-then-fits_side c =
    let f = c.find_far-o in
    rw (
      at_oblique present c.args.s.now f.result f.ensures.value c.if-o-s.false f.ensures.lower_bound.1,
      sym c.equipment.ensures.value.0,
      sym c.equipment.ensures.value.1,
      sym c.fits_side.ensures ∙ c.if-fits_side.true,
      sym c.surveillance.ensures.value.0,
      sym c.surveillance.ensures.value.1,
    )
    (rw rest at c.fits_side-then-fits_side.ensures)

pub returns-else-fits_side : goal.returns-else-fits_side
returns-else-fits_side c =
    let f = c.find_far-o in
    c.if-fits_side.false
    ∙ rw (
      at_oblique present c.args.s.now f.result f.ensures.value c.if-o-s.false f.ensures.lower_bound.1,
      sym c.equipment.ensures.value.0,
      sym c.equipment.ensures.value.1,
      sym c.fits_side.ensures ∙ c.if-fits_side.false,
    )
