-- `route_places::place_pair` meets its contract. Assumes nothing.
use Rattle.std.proofs.Common.{rules, arith, ◌≡◌}
use Rattle.text.specs.Words.{split}
use Rattle.places.specs.Parts.{farthest}
use Rattle.route.specs.Points.{point_fits}
use Rattle.point_places.specs.Points.{point_place}
use Rattle.places.proofs.Leaves.{farthest_le}
use Rattle.route_places.proofs.place_pair.Goals as goal

pub cut_place-requires-clause-within : goal.cut_place-requires-clause-within
cut_place-requires-clause-within c w r h =
    let e : r ≡ farthest (split 32 c.args.list.now) w.now = search rules in
    omega (arith, e, farthest_le (split 32 c.args.list.now) w.now)

pub returns : goal.returns
returns c =
    c.cut_place.ensures (point_fits 5) point_place (farthest (split 32 c.args.list.now)) (λ w r h. search rules) (λ w r h. search rules) (λ w r h. search rules)
