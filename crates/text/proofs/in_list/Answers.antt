-- `text::in_list` meets its contract. Assumes nothing.
use Rattle.std.proofs.Common.{rules}
use Rattle.std.specs.Prelude.{eqb}
use mathlib.Core.Path.{ap, ◌∙◌}
use borrow.Author.Tests.{tests}
use Rattle.std.proofs.lemmas.Iterator.Splits.{YieldsList-from_slice_split}
use Rattle.std.proofs.lemmas.Iterator.Search.{any_from_yields_List}
use Rattle.text.specs.Words.{same, elem}
use Rattle.text.proofs.Iterated.{same_listed, split_listed, elem_listed}
use Rattle.text.proofs.in_list.Goals as goal

pub returns : goal.returns
returns c =
    let a = c.args in
    any_from_yields_List (λ v. same a.w.now v) _ _ _ c.any.ensures.ran
    (YieldsList-from_slice_split _ (λ b. eqb b 32) a.list.now c.split.ensures.rest c.split.ensures.done c.split.ensures.closure
    (λ x b q k. search (rules, tests)))
    (λ x b q k. search (rules, tests, same_listed))
    ∙ (elem_listed a.w.now _ ∙ ap (elem a.w.now) (split_listed 32 a.list.now))
