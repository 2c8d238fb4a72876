-- `racks::Board::lowest_of` meets its contract. Assumes nothing.
use Rattle.std.proofs.Common.{rules, arith, ℕ, ◌+◌, ◌-◌, ◌≡◌, ◌≤◌, [], length, take, drop}
use Rattle.std.specs.Prelude.{is_none}
use mathlib.Core.Path.{ap, ◌∙◌}
use borrow.Author.Tests.{tests}
use Rattle.std.proofs.lemmas.Iterator.{YieldsList-from_slice}
use Rattle.std.proofs.lemmas.Iterator.Search.{position_from_yields_List}
use lib.ListN.{length-drop}
use lib.Seq.{length-take-le}
use Rattle.rooms.specs.Rooms.{lowest}
use Rattle.racks.specs.Places.{rack_at}
use Rattle.racks.proofs.Racks.{base_most}
use Rattle.racks.proofs.Loops.{lowest_found}
use Rattle.racks.proofs.Board.lowest_of.Goals as goal

pub returns : goal.returns
returns c =
    let ps = c.args.self.places in
    let from = c.base_of-from.result in
    let full : length ps ≡ 20 = search rules in
    let inside : from + 10 ≤ length ps = omega (arith, c.base_of-from.ensures, base_most c.args.f, full) in
    let s = take (from + 10 - from) (drop from ps) in
    let found = position_from_yields_List is_none _ _ c.position.result c.position.ensures.ran (YieldsList-from_slice s (search rules))
    (λ x b q k. search (rules, tests)) in
    c.unwrap_or.ensures
    ∙ lowest_found ps from inside c.position.result found (length-take-le _ _ (omega (arith, inside, length-drop from ps)) ∙ omega arith)
    ∙ ap (λ (i : ℕ). lowest (rack_at ps [] i)) c.base_of-from.ensures
