-- `text::all_of` meets its contract. Assumes nothing.
use Rattle.std.proofs.Common.{rules}
use mathlib.Core.Path.{◌∙◌}
use borrow.Author.Tests.{tests}
use Rattle.std.proofs.lemmas.Iterator.{YieldsList-from_slice}
use Rattle.std.proofs.lemmas.Iterator.Search.{all_from_yields_List}
use Rattle.text.specs.Kinds.{of_kind}
use Rattle.text.proofs.Iterated.{all_listed}
use Rattle.text.proofs.all_of.Goals as goal

pub returns : goal.returns
returns c =
    let a = c.args in
    all_from_yields_List (of_kind a.k) _ _ _ c.all.ensures.ran (YieldsList-from_slice a.w.now (search rules)) (λ x b q k. search (rules, tests))
    ∙ all_listed (of_kind a.k) a.w.now
