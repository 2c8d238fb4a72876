-- `racks::Board::held_by` meets its contract. Assumes nothing.
use Rattle.std.proofs.Common.{rules, arith, ℕ, ◌+◌, ◌-◌, ◌≡◌, ◌≤◌, [], length, take, drop}
use Rattle.std.specs.Prelude.{is_some, filter}
use mathlib.Core.Path.{ap, ◌∙◌}
use borrow.Author.Tests.{tests}
use Rattle.std.proofs.lemmas.Iterator.{YieldsList-from_slice}
use Rattle.std.proofs.lemmas.Iterator.Consumers.{count_from_yields_List, YieldsList-from_filter}
use Rattle.rooms.specs.Rooms.{held_in}
use Rattle.racks.specs.Places.{rack_at}
use Rattle.racks.proofs.Racks.{base_most}
use Rattle.racks.proofs.Loops.{held_counted}
use Rattle.racks.proofs.Board.held_by.Goals as goal

pub returns : goal.returns
returns c =
    let ps = c.args.self.places in
    let from = c.base_of-from.result in
    let full : length ps ≡ 20 = search rules in
    let inside : from + 10 ≤ length ps = omega (arith, c.base_of-from.ensures, base_most c.args.f, full) in
    let s = take (from + 10 - from) (drop from ps) in
    let counts : c.count.result ≡ length (filter is_some s)
    = count_from_yields_List c.filter.result c.count.result c.count.ensures.ran
    (YieldsList-from_filter _ is_some (YieldsList-from_slice s (search rules)) c.filter.ensures.closure (λ x r q k. search (rules, tests))) in
    counts ∙ held_counted ps from inside ∙ ap (λ (i : ℕ). held_in (rack_at ps [] i)) c.base_of-from.ensures
