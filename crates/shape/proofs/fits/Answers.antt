-- `shape::fits` meets its contract. Assumes nothing.
use mathlib.Core.Path.{sym, ◌∙◌}
use native.Mathlib.Omega.{arith}
use Rattle.shape.proofs.Index.{fits_other, fits_stop, fits_next, fits_end}
use Rattle.shape.proofs.fits.Goals as goal

pub returns-then-t-w : goal.returns-then-t-w
returns-then-t-w c =
    let a = c.args in sym (fits_other a.t.now a.w.now c.if-t-w.true)

pub returns-then-not-in_class : goal.returns-then-not-in_class
returns-then-not-in_class c =
    let a = c.args in
    let tried = sym c.in_class.ensures ∙ c.if-not-in_class.true in
    sym (c.loop-i.invariant.2 ∙ fits_stop a.t.now a.w.now c.loop-i.i (omega arith) (omega arith) tried)

pub loop-i-preserved : goal.loop-i-preserved
loop-i-preserved c =
    let a = c.args in
    let tried = sym c.in_class.ensures ∙ c.if-not-in_class.false in
    (omega arith, omega arith, c.loop-i.invariant.2 ∙ fits_next a.t.now a.w.now c.loop-i.i (omega arith) (omega arith) tried)

pub returns : goal.returns
returns c =
    let a = c.args in
    sym (c.loop-i.invariant.2 ∙ fits_end a.t.now a.w.now c.loop-i.i (omega arith) (omega arith))
