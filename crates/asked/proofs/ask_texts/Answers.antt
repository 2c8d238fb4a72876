-- `asked::ask_texts` meets its contract. Assumes nothing.
use mathlib.Core.Path.{◌≡◌, sym, ap, ◌∙◌}
use mathlib.Core.Bool.{false}
use Rattle.text.specs.Words.{split}
use Rattle.kinds.specs.declared.Role.TheVariants.{Changes}
use Rattle.force.specs.InForce.{named_by}
use Rattle.strip.specs.Updating.{differences, differs}
use Rattle.asked.specs.Asking.{is_bare}
use Rattle.asked.proofs.Steps.{other_flight, neither_whole, not_named, asked_for}
use Rattle.asked.proofs.ask_texts.Goals.{After-any, After-named_bare}
use Rattle.asked.proofs.ask_texts.Goals as goal

compared : (c : After-any) → differs (differences Changes (split 45 c.args.plan.now) (split 45 c.args.said.now)) ≡ c.any.result
compared c =
    sym (c.any.ensures ∙ ap differs c.differences_in.ensures)

pub returns-then-any : goal.returns-then-any
returns-then-any c =
    let a = c.args in let told = other_flight a.plan.now a.said.now a.number (compared (goal.at.returns-then-any c).After-any ∙ c.if-any.true) in
    record { value = rw c.of.ensures told.0; shows_text = tt }

same-flight : (c : After-named_bare) → differs (differences Changes (split 45 c.args.plan.now) (split 45 c.args.said.now)) ≡ false
same-flight c =
    let compared : differs (differences Changes (split 45 c.args.plan.now) (split 45 c.args.said.now)) ≡ c.any.result =
    sym (c.any.ensures ∙ ap differs c.differences_in.ensures) in
    compared ∙ c.if-any.false

bare-tested : (c : After-named_bare) → is_bare c.rank_of-k.result (named_by c.args.said.now c.rank_of-k.result) ≡ c.named_bare.result
bare-tested c =
    sym c.named_bare.ensures

pub returns-then-named_bare : goal.returns-then-named_bare
returns-then-named_bare c =
    let a = c.args in let told = neither_whole a.plan.now a.said.now a.number (same-flight (goal.at.returns-then-named_bare c).After-named_bare) _
    c.rank_of-k.ensures (bare-tested (goal.at.returns-then-named_bare c).After-named_bare ∙ c.if-named_bare.true) in
    record { value = rw c.of-then-named_bare.ensures told.0; shows_text = tt }

pub returns-then-k-eq0 : goal.returns-then-k-eq0
returns-then-k-eq0 c =
    let a = c.args in let told = not_named a.plan.now a.said.now a.number (same-flight (goal.at.returns-then-k-eq0 c).After-named_bare) _ c.rank_of-k.ensures
    (bare-tested (goal.at.returns-then-k-eq0 c).After-named_bare ∙ c.if-named_bare.false) c.if-k-eq0.true in record { value = told.0; shows_text = told.1 }

pub stands-requires : goal.stands-requires
stands-requires c =
    c.requires

pub returns : goal.returns
returns c =
    let a = c.args in let told = asked_for a.plan.now a.said.now a.number (same-flight (goal.at.returns c).After-named_bare) _ c.rank_of-k.ensures
    (bare-tested (goal.at.returns c).After-named_bare ∙ c.if-named_bare.false)
    c.if-k-eq0.false _ (c.stands.ensures.value, c.stands.ensures.shows_text) in record { value = told.0; shows_text = told.1 }
