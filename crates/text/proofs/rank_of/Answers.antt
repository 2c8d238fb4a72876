-- `text::rank_of` meets its contract. Assumes nothing.
use Rattle.std.proofs.Common.{rules, ◌≡◌, ◌+◌}
use Rattle.std.specs.Option.{option_map}
use Rattle.std.specs.Prelude.{eqb}
use native.Mathlib.Omega.{arith}
use borrow.Author.Tests.{tests}
use Rattle.std.proofs.lemmas.Iterator.Splits.{YieldsList-from_slice_split}
use Rattle.std.proofs.lemmas.Iterator.Search.{position_from_yields_List}
use Rattle.text.specs.Words.{same}
use Rattle.text.proofs.Iterated.{same_listed, split_listed, rank_listed}
use Rattle.text.proofs.Tests.{ranked_so}
use Rattle.text.proofs.rank_of.Goals as goal

pub returns : goal.returns
returns c =
    let a = c.args in
    let found = position_from_yields_List (λ v. same a.w.now v) _ _ c.position.result c.position.ensures.ran
    (YieldsList-from_slice_split _ (λ b. eqb b 32) a.list.now c.split.ensures.rest c.split.ensures.done c.split.ensures.closure
    (λ x b q k. search (rules, tests)))
    (λ x b q k. search (rules, tests, same_listed)) in
    let m : c.map.result ≡ option_map (λ k. k + 1) c.position.result = search (rules, tests) in
    rw (← split_listed 32 a.list.now) (ranked_so _ _ (rank_listed a.w.now 1 _ _ found (omega arith) _ m))
