-- `route_places::place_field15` meets its contract. Assumes nothing.
use Rattle.std.proofs.Common.{arith}
use Rattle.places.specs.Parts.{farthest}
use Rattle.shape.specs.Shape.{wides, any}
use Rattle.route.specs.Levels.{starts}
use Rattle.route_places.specs.Places.{route_place, place15}
use Rattle.route_places.proofs.Places.{words_right}
use Rattle.route_places.proofs.place_field15.Goals as goal

pub cut_place-requires-clause-within : goal.cut_place-requires-clause-within
cut_place-requires-clause-within c w r h =
    omega (arith, h, (words_right w.now).within)

pub returns : goal.returns
unfolding place15
returns c =
    c.cut_place.ensures (any (wides starts)) (farthest (wides starts)) route_place (λ w r h. h) (λ w r h. h) (λ w r h. h)
