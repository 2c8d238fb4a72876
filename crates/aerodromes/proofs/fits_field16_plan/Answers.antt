-- `aerodromes::fits_field16_plan` meets its contract. Assumes nothing.
use Prim.Native.Nat.{ℕ, ◌+◌}
use mathlib.Core.Path.{◌≡◌, sym, ap, ◌∙◌}
use mathlib.Core.List.{List}
use lib.ListN.{take}
use Rattle.std.proofs.Common.{length-take-le}
use Rattle.text.specs.Words.{split}
use Rattle.text.proofs.Index.{rest}
use Rattle.shape.specs.Time.{elapsed_hours}
use Rattle.shape.proofs.Times.{by_time}
use Rattle.aerodromes.specs.Aerodromes.{joined}
use Rattle.aerodromes.specs.Field16.{few_aerodromes, most_alternates}
use Rattle.aerodromes.proofs.Index.{plan_stop, plan_last, plan_next}
use native.Mathlib.Omega.{arith}
use Rattle.aerodromes.proofs.fits_field16_plan.Goals.{After-is_elapsed}
use Rattle.aerodromes.proofs.fits_field16_plan.Goals as goal

tried : (c : After-is_elapsed) → c.is_elapsed.result ≡ joined elapsed_hours (take c.find-e.result c.args.s.now)
tried c =
    by_time _ c.at_elapsed.ensures c.is_elapsed.ensures

pub slice_bounds-at_elapsed-end : goal.slice_bounds-at_elapsed-end
slice_bounds-at_elapsed-end c =
    sym (length-take-le _ _ c.find-e.ensures.lower_bound.1)

pub returns-then-not-is_elapsed : goal.returns-then-not-is_elapsed
returns-then-not-is_elapsed c =
    sym (plan_stop c.args.s.now _ c.find-e.ensures.value (sym (tried (goal.at.returns-then-not-is_elapsed c).After-is_elapsed) ∙ c.if-not-is_elapsed.true))

pub returns-then-e-s : goal.returns-then-e-s
returns-then-e-s c =
    sym (plan_last c.args.s.now _ c.find-e.ensures.value (sym (tried (goal.at.returns-then-e-s c).After-is_elapsed) ∙ c.if-not-is_elapsed.false) (omega arith))

pub returns : goal.returns
returns c =
    let f = c.find-e in
    c.alternates.ensures
    ∙ ap (λ (t : List ℕ). few_aerodromes most_alternates (split 32 t)) (rest c.args.s.now (f.result + 1))
    ∙ sym (plan_next c.args.s.now f.result f.ensures.value (sym (tried (goal.at.returns c).After-is_elapsed) ∙ c.if-not-is_elapsed.false) (omega arith))
