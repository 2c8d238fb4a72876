-- `causes::offered_cause` meets its contract. Assumes nothing.
use mathlib.Core.Path.{◌≡◌, sym, ◌∙◌}
use Rattle.std.specs.Prelude.{Some}
use Rattle.text.specs.Words.{split}
use Rattle.strip.specs.Updating.{event_of}
use Rattle.causes.proofs.Steps.{unfit, differing, forbidden, allowed}
use Rattle.causes.proofs.offered_cause.Goals.{In-Some}
use Rattle.causes.proofs.offered_cause.Goals as goal

says : (c : In-Some) → event_of c.args.role (split 45 c.args.said.now) ≡ Some c.in-Some.e
says c =
    sym c.event_of.ensures ∙ c.in-Some.is

pub returns-then-any : goal.returns-then-any
returns-then-any c =
    let a = c.args in
    differing a.role a.plan.now a.held a.said.now _ (says (goal.at.returns-then-any c).In-Some) _ c.differences_in-found.ensures
    (sym c.any.ensures ∙ c.if-any.true)

pub returns-then-not-allows : goal.returns-then-not-allows
returns-then-not-allows c =
    let a = c.args in
    forbidden a.role a.plan.now a.held a.said.now _ (says (goal.at.returns-then-not-allows c).In-Some) _ c.differences_in-found.ensures
    (sym c.any.ensures ∙ c.if-any.false)
    (sym c.allows.ensures ∙ c.if-not-allows.true)

pub amended_cause-requires : goal.amended_cause-requires
amended_cause-requires c =
    c.requires

pub returns-in-None : goal.returns-in-None
returns-in-None c =
    let a = c.args in
    unfit a.role a.plan.now a.held a.said.now (sym c.event_of.ensures ∙ c.in-None.is)

pub returns-else-not-allows : goal.returns-else-not-allows
returns-else-not-allows c =
    let a = c.args in
    allowed a.role a.plan.now a.held a.said.now _ (says (goal.at.returns-else-not-allows c).In-Some) _ c.differences_in-found.ensures
    (sym c.any.ensures ∙ c.if-any.false)
    (sym c.allows.ensures ∙ c.if-not-allows.false) _ c.amended_cause.ensures
