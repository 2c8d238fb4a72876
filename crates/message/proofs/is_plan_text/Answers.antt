-- `message::is_plan_text` meets its contract. Assumes nothing.
use mathlib.Core.Path.{◌≡◌, sym, ap, ◌∙◌}
use native.Mathlib.Omega.{arith}
use lib.ListN.{length}
use Rattle.text.specs.Words.{split}
use Rattle.std.specs.Prelude.{is_some}
use Rattle.plan.proofs.Laws.{numbered_free}
use Rattle.message.proofs.Plans.{nine_contents}
use Rattle.message.proofs.is_plan_text.Goals.{Start}
use Rattle.message.proofs.is_plan_text.Goals as goal

nine : (c : Start) → length (split 45 c.args.s.now) ≡ 9
nine c =
    nine_contents c.args.t c.args.count c.args.s.now c.requires.0 c.requires.1

pub field_ends-ends-requires : goal.field_ends-ends-requires
field_ends-ends-requires c =
    omega (arith, nine (goal.at.field_ends-ends-requires c).Start)

pub fields_fault-requires : goal.fields_fault-requires
fields_fault-requires c =
    (c.field_ends-ends.ensures, c.requires.1)

pub unexplained_by-requires : goal.unexplained_by-requires
unexplained_by-requires c =
    (c.field_ends-ends.ensures, nine (goal.at.unexplained_by-requires c).Start)

pub returns-then-is_ok : goal.returns-then-is_ok
returns-then-is_ok c =
    rw (← c.fields_fault.ensures, ← c.is_ok.ensures.value, c.if-is_ok.true)
    (numbered_free _ _ (ap is_some (sym c.unexplained_by.ensures) ∙ c.is_none.ensures))

pub returns-else-is_ok : goal.returns-else-is_ok
returns-else-is_ok c =
    rw (← c.fields_fault.ensures, ← c.is_ok.ensures.value, c.if-is_ok.false)
