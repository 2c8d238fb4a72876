-- `head::run` meets its contract. Assumes nothing.
use Rattle.std.proofs.Common.{rules}
use Rattle.std.specs.Prelude.{not, refl}
use Rattle.std.specs.Bool.{beq}
use borrow.Author.Tests.{tests}
use Rattle.std.proofs.lemmas.Iterator.{YieldsList-from_slice}
use Rattle.std.proofs.lemmas.Iterator.Search.{position_from_yields_List}
use Rattle.alphabet.specs.Alphabet.{digit}
use Rattle.alphabet.proofs.First.{count_found}
use Rattle.head.specs.Runs.{lead}
use Rattle.head.proofs.run.Goals as goal

pub returns : goal.returns
returns c =
    let d = c.args.digits in
    let s = c.args.s.now in
    let found =
    position_from_yields_List (λ b. not (beq (digit b) d)) _ _ c.position.result c.position.ensures.ran
    (YieldsList-from_slice s (search rules)) (λ x b q k. search (rules, tests)) in
    count_found (λ b. beq (digit b) d) (lead d) refl (λ b t. refl) s _ found _ c.unwrap_or.ensures
