-- `calls::cut` meets its contract. Assumes nothing.
use Rattle.std.proofs.Common.{rules}
use Rattle.std.specs.Prelude.{eqb}
use borrow.Author.Tests.{tests}
use Rattle.std.proofs.lemmas.Iterator.{YieldsList-from_slice}
use Rattle.std.proofs.lemmas.Iterator.Search.{position_from_yields_List}
use Rattle.calls.proofs.Lines.{found_space, no_space}
use Rattle.calls.proofs.cut.Goals as goal

pub returns-in-Some : goal.returns-in-Some
returns-in-Some c =
    let found =
    position_from_yields_List (λ b. eqb b 32) _ _ c.position.result c.position.ensures.ran (YieldsList-from_slice c.args.s.now (search rules))
    (λ x b q k. search (rules, tests)) in
    let w = found_space c.args.s.now c.position.result found c.in-Some.e c.in-Some.is in
    record { first = w.0; rest = w.1 }

pub returns-in-None : goal.returns-in-None
returns-in-None c =
    let found =
    position_from_yields_List (λ b. eqb b 32) _ _ c.position.result c.position.ensures.ran (YieldsList-from_slice c.args.s.now (search rules))
    (λ x b q k. search (rules, tests)) in
    let w = no_space c.args.s.now c.position.result found c.in-None.is in
    record { first = w.0; rest = w.1 }
