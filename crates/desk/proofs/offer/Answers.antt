-- `desk::offer` meets its contract. Assumes nothing.
use mathlib.Core.Path.{refl, sym, ◌∙◌}
use native.Mathlib.Omega.{arith}
use lib.Seq.{length-take-le}
use Rattle.std.proofs.lemmas.Result.{err_from_is_err_and}
use Rattle.history.proofs.Causes.{accepted_fits}
use Rattle.desk.proofs.Offers.{refused, taken}
use Rattle.desk.proofs.offer.Goals as goal

pub slice_bounds-new-end : goal.slice_bounds-new-end
slice_bounds-new-end c =
    let h = accepted_fits _ _ _ 1800 _ _ (sym c.update.ensures.0 ∙ c.in_ok-next.was) in
    omega (arith, h, c.update.auto.out)

pub slice_bounds-put-end : goal.slice_bounds-put-end
slice_bounds-put-end c =
    let h = accepted_fits _ _ _ 1800 _ _ (sym c.update.ensures.0 ∙ c.in_ok-next.was) in
    sym (length-take-le c.in_ok-next.k c.update.new.out (omega (arith, h, c.update.auto.out)))

pub returns-in_err-next : goal.returns-in_err-next
returns-in_err-next c =
    let p = err_from_is_err_and c.from_residual.result c.from_residual.ensures.1 in
    rw (p.1, p.2) (refused _ _ _ _ _ _ _ c.requires.1 (sym c.update.ensures.0 ∙ c.in_err-next.was) refl)

pub returns : goal.returns
returns c =
    taken _ _ _ _ _ _ _ (sym c.update.ensures.0 ∙ c.in_ok-next.was) c.update.ensures.1 (omega (arith, c.update.auto.out)) c.put.ensures.1
