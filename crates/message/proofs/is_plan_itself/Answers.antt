-- `message::is_plan_itself` meets its contract. Assumes nothing.
use mathlib.Core.Path.{sym, ap, ◌∙◌}
use Rattle.std.specs.Prelude.{is_ok}
use Rattle.outer.proofs.Walk.{is_ok_lem}
use Rattle.message.proofs.Itself.{none_passed}
use Rattle.message.specs.Reading.{answer_of, plan_itself}
use Rattle.message.proofs.is_plan_itself.Goals as goal

pub is_plan_typed-requires : goal.is_plan_typed-requires
is_plan_typed-requires c =
    sym c.check_outer.ensures ∙ is_ok_lem _ (sym c.is_ok.ensures.value ∙ c.if-is_ok.true)

pub returns-then-is_ok : goal.returns-then-is_ok
unfolding answer_of plan_itself
returns-then-is_ok c =
    rw (sym c.check_outer.ensures ∙ is_ok_lem _ (sym c.is_ok.ensures.value ∙ c.if-is_ok.true)) c.is_plan_typed.ensures

pub returns-else-is_ok : goal.returns-else-is_ok
unfolding answer_of plan_itself
returns-else-is_ok c =
    rw (none_passed _ c.args.msg.now (ap is_ok (sym c.check_outer.ensures) ∙ sym c.is_ok.ensures.value ∙ c.if-is_ok.false)) c.if-is_ok.false
