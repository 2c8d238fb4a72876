-- `aerodromes::text_words` meets its contract. Assumes nothing.
use Rattle.std.proofs.Common.{rules}
use mathlib.Core.Path.{ap, ◌∙◌}
use Rattle.std.specs.Prelude.{eqb}
use borrow.Author.Tests.{tests}
use Rattle.std.proofs.lemmas.Iterator.Search.{all_from_yields_List}
use Rattle.std.proofs.lemmas.Iterator.Splits.{YieldsList-from_slice_split}
use Rattle.text.specs.Words.{all, text_word}
use Rattle.text.proofs.Iterated.{all_listed, split_listed}
use Rattle.aerodromes.proofs.text_words.Goals as goal

pub returns : goal.returns
returns c =
    let s = c.args.list.now in
    all_from_yields_List text_word _ _ _ c.all.ensures.ran
    (YieldsList-from_slice_split _ (λ b. eqb b 32) s c.split.ensures.rest c.split.ensures.done c.split.ensures.closure (λ x b q k. search (rules, tests)))
    (λ x b q k. search (rules, tests))
    ∙ (all_listed text_word _ ∙ ap (all text_word) (split_listed 32 s))
