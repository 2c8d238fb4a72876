use Rattle.std.proofs.Common.{rules}
use Rattle.std.specs.Prelude.{not, refl}
use borrow.Author.Tests.{tests}
use Rattle.std.proofs.lemmas.Iterator.{YieldsList-from_slice}
use Rattle.std.proofs.lemmas.Iterator.Search.{position_from_yields_List}
use Rattle.alphabet.specs.Alphabet.{in_alphabet, known}
use Rattle.alphabet.proofs.First.{count_found}
use Rattle.alphabet.proofs.known_bytes.Goals as goal

pub returns : goal.returns
returns c =
    let s = c.args.s.now in
    let found = position_from_yields_List (λ b. not (in_alphabet b)) _ _ c.position.result c.position.ensures.ran (YieldsList-from_slice s (search rules))
    (λ x b q k. search (rules, tests)) in
    count_found in_alphabet known refl (λ b t. refl) s _ found _ c.unwrap_or.ensures
