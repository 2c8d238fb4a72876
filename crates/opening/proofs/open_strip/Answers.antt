-- `opening::open_strip` meets its contract. Assumes nothing.
use Rattle.std.specs.Prelude.{Err}
use mathlib.Core.Path.{◌≡◌, sym, ap, ◌∙◌}
use mathlib.Core.Bool.{true}
use native.Mathlib.Omega.{arith}
use lib.ListN.{length}
use Rattle.message.specs.Reading.{answer_of}
use Rattle.state.specs.State.{sound}
use Rattle.opening.specs.Opening.{canonical_plan}
use Rattle.opening.proofs.Steps.{read_front, refused_stays, unsound, no_plan, not_read, was_read_lem}
use Rattle.opening.proofs.open_strip.Goals.{After-read, Else-not-is_canonical_plan, Else-not-is_sound}
use Rattle.opening.proofs.open_strip.Goals as goal

held_sound : (c : Else-not-is_sound) → sound c.args.held ≡ true
held_sound c =
    sym c.is_sound.ensures ∙ c.if-not-is_sound.false

is_plan_lem : (c : Else-not-is_canonical_plan) → canonical_plan c.args.strip.now ≡ true
is_plan_lem c =
    sym c.is_canonical_plan.ensures ∙ c.if-not-is_canonical_plan.false

long : (c : After-read) → length c.args.scratch.now ≡ 1800
long c =
    omega (arith, c.read-arg-1.given)

pub returns-then-not-is_sound : goal.returns-then-not-is_sound
returns-then-not-is_sound c =
    let a = c.args in
    rw c.of.ensures (unsound a.strip.now a.held a.msg.now a.scratch.now (sym c.is_sound.ensures ∙ c.if-not-is_sound.true))

pub returns-then-not-is_canonical_plan : goal.returns-then-not-is_canonical_plan
returns-then-not-is_canonical_plan c =
    let a = c.args in
    rw c.of-then-not-is_canonical_plan.ensures (no_plan a.strip.now a.held a.msg.now a.scratch.now (held_sound
    (goal.at.returns-then-not-is_canonical_plan c).Else-not-is_sound)
    (sym c.is_canonical_plan.ensures ∙ c.if-not-is_canonical_plan.true))

pub returns-in-Err : goal.returns-in-Err
returns-in-Err c =
    let a = c.args in
    let there = sym c.read.ensures.0 ∙ c.in-Err.is in
    rw (c.read.ensures.1, refused_stays a.msg.now a.scratch.now _ _ _ there)
    (not_read a.strip.now a.held a.msg.now a.scratch.now (held_sound (goal.at.returns-in-Err c).Else-not-is_sound)
    (is_plan_lem (goal.at.returns-in-Err c).Else-not-is_canonical_plan) _
    (ap (answer_of a.msg.now) (sym (long (goal.at.returns-in-Err c).After-read)) ∙ there) _ (ap Err c.not_read.ensures))

pub returns-in-Ok : goal.returns-in-Ok
returns-in-Ok c =
    let a = c.args in
    let there = sym c.read.ensures.0 ∙ c.in-Ok.is in
    was_read_lem a.strip.now a.held a.msg.now a.scratch.now (held_sound (goal.at.returns-in-Ok c).Else-not-is_sound)
    (is_plan_lem (goal.at.returns-in-Ok c).Else-not-is_canonical_plan) c.in-Ok.read.0 c.in-Ok.read.1
    (ap (answer_of a.msg.now) (sym (long (goal.at.returns-in-Ok c).After-read)) ∙ there) _
    (c.read.ensures.1 ∙ read_front a.msg.now a.scratch.now _ _ there)
