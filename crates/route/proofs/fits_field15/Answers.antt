-- `route::fits_field15` meets its contract. Assumes nothing.
use mathlib.Core.Path.{sym, ◌∙◌}
use native.Mathlib.Omega.{arith}
use Rattle.route.proofs.Index.{field_one, field_more}
use Rattle.route.proofs.fits_field15.Goals as goal

pub returns-then-e-s : goal.returns-then-e-s
returns-then-e-s c =
    let f = c.find-e in
    sym (field_one c.args.s.now f.result f.ensures.value (omega arith))

pub returns-then-not-start : goal.returns-then-not-start
returns-then-not-start c =
    let f = c.find-e in
    let start = sym c.start.ensures ∙ c.if-not-start.true in
    rw (field_more c.args.s.now f.result f.ensures.value (omega arith), start)

pub returns : goal.returns
returns c =
    let f = c.find-e in
    let start = sym c.start.ensures ∙ c.if-not-start.false in
    rw (field_more c.args.s.now f.result f.ensures.value (omega arith), start) c.elements.ensures
