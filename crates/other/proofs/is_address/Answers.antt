-- `other::is_address` meets its contract. Assumes nothing.
use Rattle.std.proofs.Common.{rules}
use mathlib.Core.Path.{◌∙◌}
use borrow.Author.Tests.{tests, eq-eqb}
use Rattle.std.proofs.lemmas.Iterator.{YieldsList-from_slice}
use Rattle.std.proofs.lemmas.Iterator.Search.{all_from_yields_List}
use Rattle.alphabet.specs.Alphabet.{one_of}
use Rattle.text.proofs.Iterated.{all_listed}
use Rattle.other.specs.Rules.{hexadecimal}
use Rattle.other.proofs.is_address.Goals as goal

pub returns : goal.returns
unfolding hexadecimal
returns c =
    let w = c.args.w.now in
    rw (eq-eqb _ _ c.if-w-ne6.false)
    (all_from_yields_List (λ b. one_of b hexadecimal) _ _ _ c.all.ensures.ran (YieldsList-from_slice w (search rules)) (λ x b q k. search (rules, tests))
    ∙ all_listed (λ b. one_of b hexadecimal) w)
