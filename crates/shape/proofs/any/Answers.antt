-- `shape::any` meets its contract. Assumes nothing.
use Rattle.std.proofs.Common.{rules, List}
use Rattle.std.specs.Prelude.{eqb}
use mathlib.Core.Path.{ap, ◌∙◌}
use borrow.Author.Tests.{tests}
use Rattle.std.proofs.lemmas.Iterator.Splits.{YieldsList-from_slice_split}
use Rattle.std.proofs.lemmas.Iterator.Search.{any_from_yields_List}
use Rattle.text.specs.Words.{Word}
use Rattle.text.proofs.Iterated.{split_listed}
use Rattle.shape.specs.Shape.{fits, any}
use Rattle.shape.proofs.Index.{any_listed}
use Rattle.shape.proofs.any.Goals as goal

pub returns : goal.returns
returns c =
    let a = c.args in
    any_from_yields_List (λ t. fits t a.w.now) _ _ _ c.any.ensures.ran
    (YieldsList-from_slice_split _ (λ b. eqb b 32) a.list.now c.split.ensures.rest c.split.ensures.done c.split.ensures.closure
    (λ x b q k. search (rules, tests)))
    (λ x b q k. search (rules, tests))
    ∙ (any_listed a.w.now _ ∙ ap (λ (ts : List Word). any ts a.w.now) (split_listed 32 a.list.now))
