-- `places::largest` meets its contract. Assumes nothing.
use mathlib.Core.Path.{ap, ◌∙◌}
use Rattle.std.proofs.Common.{rules, tests}
use Rattle.std.specs.Prelude.{max, map, eqb}
use Rattle.std.specs.List.{fold}
use Rattle.std.proofs.lemmas.Iterator.{YieldsList-from_map}
use Rattle.std.proofs.lemmas.Iterator.Splits.{YieldsList-from_slice_split}
use Rattle.std.proofs.lemmas.Iterator.Consumers.{fold_from_yields_List}
use Rattle.text.specs.Words.{split}
use Rattle.text.proofs.Iterated.{split_listed}
use Rattle.places.specs.Parts.{largest}
use Rattle.places.proofs.Larger.{larger_first, largest_folded}
use Rattle.places.proofs.largest.Goals as goal

pub returns : goal.returns
returns g c m k =
    let words = split 32 c.args.list.now in
    fold_from_yields_List _ (λ a n. max a n) 0 c.fold.result c.fold.ensures.ran
    (YieldsList-from_map _ m (YieldsList-from_slice_split _ (λ b. eqb b 32) c.args.list.now (cc) (cc) (cc) (λ x b q j. search (rules, tests)))
    c.map.ensures.closure (λ x r q j. (search rules, k x r (search rules))))
    (λ a x b q j. search rules)
    ∙ ap (λ ws. fold max 0 (map m ws)) (split_listed 32 c.args.list.now) ∙ largest_folded m 0 words ∙ larger_first (largest m words)
