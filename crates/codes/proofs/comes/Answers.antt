-- `codes::comes` meets its contract. Assumes nothing.
use Rattle.std.proofs.Common.{rules}
use mathlib.Core.Path.{refl, ◌∙◌}
use borrow.Author.Tests.{tests}
use Rattle.std.proofs.lemmas.Iterator.Consumers.{YieldsList-from_first}
use Rattle.std.proofs.lemmas.Iterator.Search.{any_from_yields_List}
use Rattle.text.specs.Words.{same}
use Rattle.text.proofs.Iterated.{same_listed, elem_listed}
use Rattle.codes.specs.Codes.{codes}
use Rattle.codes.proofs.comes.Goals as goal

pub returns : goal.returns
returns c =
    let a = c.args in
    any_from_yields_List (λ v. same a.w.now v) c.any.new.self _ _ c.any.ensures.ran
    (YieldsList-from_first (λ x. x.now) (λ s. codes s.rest.now) (codes a.s.now) refl)
    (λ x b q k. search (rules, tests, same_listed))
    ∙ elem_listed a.w.now _
