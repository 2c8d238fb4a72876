-- `supplement::step` meets its contract. Assumes nothing.
use Prim.Native.Nat.{◌<◌}
use mathlib.Core.Bool.{true}
use mathlib.Core.Path.{◌≡◌, sym, ap, ◌∙◌}
use native.Mathlib.Omega.{arith}
use lib.Dec.{eqb}
use lib.ListN.{length, get_or}
use Rattle.text.proofs.Index.{rest}
use Rattle.supplement.specs.Field19.{by_letter}
use Rattle.supplement.specs.Walk.{first as first_of}
use Rattle.supplement.proofs.Steps.{second_inside, step_plain, step_late, step_first}
use Rattle.supplement.proofs.step.Goals.{Else-not-has_key}
use Rattle.supplement.proofs.step.Goals as goal

second : (c : Else-not-has_key) → eqb (get_or c.args.w.now 1 0) 47 ≡ true
second c =
    sym c.has_key.ensures ∙ c.if-not-has_key.false

inside : (c : Else-not-has_key) → 1 < length c.args.w.now
inside c =
    second_inside c.args.w.now (second c)

pub returns-then-not-has_key : goal.returns-then-not-has_key
returns-then-not-has_key c =
    let a = c.args in
    c.further.ensures ∙ sym (step_plain a.stage a.w.now (sym c.has_key.ensures ∙ c.if-not-has_key.true))

pub bounds-w-0 : goal.bounds-w-0
bounds-w-0 c =
    omega (arith, inside (goal.at.bounds-w-0 c).Else-not-has_key)

pub returns-then-place-past : goal.returns-then-place-past
returns-then-place-past c =
    sym
    (step_late c.args.stage c.args.w.now (second (goal.at.returns-then-place-past c).Else-not-has_key)
    (omega (arith, c.if-place-past.true, c.place.ensures, c.past.ensures)))

pub returns : goal.returns
returns c =
    c.first.ensures ∙ ap (first_of (by_letter (get_or c.args.w.now 0 0))) (rest c.args.w.now 2)
    ∙ sym
    (step_first c.args.stage c.args.w.now (second (goal.at.returns c).Else-not-has_key) (omega (arith, c.if-place-past.false, c.place.ensures, c.past.ensures)))
