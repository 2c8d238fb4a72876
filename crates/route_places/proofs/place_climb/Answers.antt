-- `route_places::place_climb` meets its contract. Assumes nothing.
use Rattle.std.proofs.Common.{rules, arith}
use Rattle.alphabet.specs.Text.{bytes}
use Rattle.places.specs.Parts.{along}
use Rattle.shape.specs.Shape.{wides}
use Rattle.route.specs.Levels.{climbs}
use Rattle.route_places.specs.Places.{is_c, pair_place, climb_place}
use Rattle.route_places.proofs.Places.{climbs_within}
use Rattle.route_places.proofs.place_climb.Goals as goal

pub cut_place-requires-clause-within : goal.cut_place-requires-clause-within
cut_place-requires-clause-within c w r h =
    omega (arith, h, climbs_within w.now)

pub returns : goal.returns
unfolding climb_place
returns c =
    c.cut_place.ensures is_c (along (bytes "C")) (pair_place (wides climbs)) (λ w r h. search rules) (λ w r h. search rules) (λ w r h. search rules)
