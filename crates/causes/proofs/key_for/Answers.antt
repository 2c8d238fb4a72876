-- `causes::key_for` meets its contract. Assumes nothing.
use mathlib.Core.Path.{◌≡◌, sym, ap₂, ◌∙◌}
use mathlib.Core.List.{[]}
use lib.ListN.{get_or}
use Rattle.text.specs.Words.{split}
use Rattle.kinds.specs.Kinds.{plan16, plan18}
use Rattle.plan.specs.Unexplained.{without_dest}
use Rattle.causes.proofs.Steps.{of_type, of_departure, of_destination, of_alternate}
use Rattle.causes.proofs.key_for.Goals.{After-without_dest}
use Rattle.causes.proofs.key_for.Goals as goal

found : (c : After-without_dest) → without_dest (get_or ((split 45 c.args.plan.now)) plan16 []) (get_or ((split 45 c.args.plan.now)) plan18 [])
    ≡ c.without_dest.result
found c =
    sym (c.without_dest.ensures ∙ ap₂ without_dest c.field.ensures c.field-2.ensures)

pub returns-then-field-eq9 : goal.returns-then-field-eq9
returns-then-field-eq9 c =
    of_type _ (split 45 c.args.plan.now) c.if-field-eq9.true

pub returns-then-field-eq13 : goal.returns-then-field-eq13
returns-then-field-eq13 c =
    of_departure _ (split 45 c.args.plan.now) c.if-field-eq9.false c.if-field-eq13.true

pub returns-then-without_dest : goal.returns-then-without_dest
returns-then-without_dest c =
    of_destination _ (split 45 c.args.plan.now) c.if-field-eq9.false c.if-field-eq13.false (found (goal.at.returns-then-without_dest c).After-without_dest
    ∙ c.if-without_dest.true)

pub returns : goal.returns
returns c =
    of_alternate _ (split 45 c.args.plan.now) c.if-field-eq9.false c.if-field-eq13.false (found (goal.at.returns c).After-without_dest
    ∙ c.if-without_dest.false)
