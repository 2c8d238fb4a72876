-- `calls::number_in` meets its contract. Assumes nothing.
use Rattle.std.proofs.Common.{rules}
use borrow.Author.Tests.{tests}
use Rattle.std.proofs.lemmas.Iterator.{YieldsList-from_slice}
use Rattle.std.proofs.lemmas.Iterator.Search.{all_from_yields_List}
use Rattle.alphabet.specs.Alphabet.{digit}
use Rattle.calls.proofs.Lines.{many}
use Rattle.calls.proofs.number_in.Goals as goal

pub returns-in_default : goal.returns-in_default
returns-in_default c =
    let s = c.args.w.now in
    let h = all_from_yields_List digit _ _ _ c.all.ensures.ran (YieldsList-from_slice s (search rules)) (λ x b q k. search (rules, tests)) in
    many s _ h c.if-not-all.false c.in_default.len_at_least
