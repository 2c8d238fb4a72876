-- `other_places::rule_place` meets its contract. Assumes nothing.
use Rattle.other.specs.declared.Rule.{Rule}
use Rattle.other_places.specs.Places.{rule_place}
use mathlib.Core.Path.{◌≡◌, sym, ap, ◌∙◌}
use Rattle.text.specs.Words.{Word}
use Rattle.other_places.proofs.rule_place.Goals as goal

by-rule : {r q : Rule} (w : Word) → r ≡ q → rule_place q w ≡ rule_place r w
by-rule w e = sym (ap (λ (r : Rule). rule_place r w) e)

pub returns-in-Status : goal.returns-in-Status
returns-in-Status c =
    c.status_place.ensures ∙ by-rule c.args.w.now c.in-Status.is

pub returns-in-Approvals : goal.returns-in-Approvals
returns-in-Approvals c =
    c.approvals_place.ensures ∙ by-rule c.args.w.now c.in-Approvals.is

pub returns-in-Day : goal.returns-in-Day
returns-in-Day c =
    c.date_place.ensures ∙ by-rule c.args.w.now c.in-Day.is

pub returns-in-Timed : goal.returns-in-Timed
returns-in-Timed c =
    c.timed_place.ensures ∙ by-rule c.args.w.now c.in-Timed.is

pub returns-in-Selcal : goal.returns-in-Selcal
returns-in-Selcal c =
    c.selcal_place.ensures ∙ by-rule c.args.w.now c.in-Selcal.is

pub returns-in-Address : goal.returns-in-Address
returns-in-Address c =
    c.address_place.ensures ∙ by-rule c.args.w.now c.in-Address.is

pub returns-in-Free : goal.returns-in-Free
returns-in-Free c =
    c.text_place.ensures ∙ by-rule c.args.w.now c.in-Free.is
