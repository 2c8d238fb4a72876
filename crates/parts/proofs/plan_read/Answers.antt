-- `parts::plan_read` meets its contract. Assumes nothing.
use mathlib.Core.Path.{◌≡◌, sym, ap, subst, ◌∙◌}
use mathlib.Core.Bool.{Bool, true}
use Rattle.kinds.specs.declared.MessageType.{MessageType}
use Rattle.message.specs.Reading.{is_plan}
use Rattle.message.proofs.Plans.{plan_type}
use Rattle.parts.specs.Parts.{taken_of, Own}
use Rattle.parts.proofs.Own.{taken_own}
use Rattle.parts.proofs.Answers.{plan-other, plan-respelled, plan_given}
use Rattle.parts.proofs.plan_read.Goals.{Else-not-is_plan}
use Rattle.parts.proofs.plan_read.Goals as goal
use Rattle.std.specs.Prelude.{Ok}

is-plan-read : (c : Else-not-is_plan) → is_plan c.args.t ≡ true
is-plan-read c =
    sym c.is_plan.ensures ∙ c.if-not-is_plan.false

pub returns-then-not-is_plan : goal.returns-then-not-is_plan
returns-then-not-is_plan c =
    let a = c.args in
    rw c.of.ensures (plan-other a.t a.own a.m.now (sym c.is_plan.ensures ∙ c.if-not-is_plan.true))

pub returns-then-not-own : goal.returns-then-not-own
returns-then-not-own c =
    let a = c.args in
    rw c.of-then-not-own.ensures (plan-respelled a.t a.own a.m.now (is-plan-read (goal.at.returns-then-not-own c).Else-not-is_plan) c.if-not-own.true)

pub plan_in-requires : goal.plan_in-requires
plan_in-requires c =
    let a = c.args in
    let taken : taken_of a.m.now ≡ Ok (a.t, true) = c.requires ∙ ap (λ (b : Bool). Ok (a.t, b)) (c.if-not-own.false) in
    subst (λ (t : MessageType). Own t a.m.now) (plan_type a.t (is-plan-read (goal.at.plan_in-requires c).Else-not-is_plan)) (taken_own a.m.now a.t taken)

pub returns : goal.returns
returns c =
    let a = c.args in
    plan_given a.t a.own a.m.now (is-plan-read (goal.at.returns c).Else-not-is_plan) (c.if-not-own.false) _ c.plan_in.ensures
