-- `other_places::front_in` meets its contract. Assumes nothing.
use borrow.Author.Tests.{tests}
use Rattle.std.proofs.Common.{rules, not}
use Rattle.std.proofs.lemmas.Iterator.{YieldsList-from_slice}
use Rattle.std.proofs.lemmas.Iterator.Search.{position_from_yields_List}
use Rattle.alphabet.specs.Alphabet.{one_of}
use Rattle.text.proofs.Iterated.{leading_found}
use Rattle.other_places.proofs.front_in.Goals as goal

pub returns : goal.returns
returns c =
    let w = c.args.w.now in
    let set = c.args.set.now in
    let found = position_from_yields_List (λ b. not (one_of b set)) _ _ c.position.result c.position.ensures.ran
    (YieldsList-from_slice w (search rules)) (λ x b q k. search (rules, tests)) in
    (leading_found (λ b. one_of b set) w c.position.result found c.unwrap_or.result c.unwrap_or.ensures).0
