-- `strip::offer` meets its contract. Assumes nothing.
use mathlib.Core.Path.{◌≡◌, sym, ap, ◌∙◌}
use Rattle.std.specs.Prelude.{Some}
use Rattle.text.specs.Words.{split}
use Rattle.strip.specs.Updating.{event_of, differences, differs}
use Rattle.strip.proofs.Answers.{unfit, differing, not_allowed, allowed}
use Rattle.strip.proofs.offer.Goals.{After-any, In-Some}
use Rattle.strip.proofs.offer.Goals as goal

says : (c : In-Some) → event_of c.args.role (split 45 c.args.said.now) ≡ Some c.in-Some.e
says c =
    sym c.event_of.ensures ∙ c.in-Some.is

compared : (c : After-any) → differs (differences c.args.role (split 45 c.args.plan.now) (split 45 c.args.said.now)) ≡ c.any.result
compared c =
    sym (c.any.ensures ∙ ap differs c.differences_in.ensures)

pub returns-then-any : goal.returns-then-any
returns-then-any c =
    let a = c.args in
    rw c.of-then-any.ensures (differing a.role a.plan.now a.held a.said.now a.out.now _ (says (goal.at.returns-then-any c).In-Some) (compared
    (goal.at.returns-then-any c).After-any
    ∙ c.if-any.true))

pub returns-then-not-allows : goal.returns-then-not-allows
returns-then-not-allows c =
    let a = c.args in
    rw c.of-then-not-allows.ensures (not_allowed a.role a.plan.now a.held a.said.now a.out.now _ (says (goal.at.returns-then-not-allows c).In-Some)
    (compared (goal.at.returns-then-not-allows c).After-any ∙ c.if-any.false)
    (sym c.allows.ensures ∙ c.if-not-allows.true))

pub amend-requires : goal.amend-requires
amend-requires c =
    c.requires

pub returns-in-None : goal.returns-in-None
returns-in-None c =
    let a = c.args in
    rw c.of.ensures (unfit a.role a.plan.now a.held a.said.now a.out.now (sym c.event_of.ensures ∙ c.in-None.is))

pub returns-else-not-allows : goal.returns-else-not-allows
returns-else-not-allows c =
    let a = c.args in
    allowed a.role a.plan.now a.held a.said.now a.out.now _ (says (goal.at.returns-else-not-allows c).In-Some)
    (compared (goal.at.returns-else-not-allows c).After-any ∙ c.if-any.false)
    (sym c.allows.ensures ∙ c.if-not-allows.false) c.next.result c.next.ensures
    _ _ c.amend.ensures
