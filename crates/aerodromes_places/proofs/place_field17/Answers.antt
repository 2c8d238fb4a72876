-- `aerodromes_places::place_field17` meets its contract. Assumes nothing.
use Rattle.std.proofs.Common.{arith}
use Rattle.aerodromes_places.specs.Places.{landed, landed_place, place17}
use Rattle.aerodromes_places.proofs.Landed.{landed_right}
use Rattle.aerodromes_places.proofs.place_field17.Goals as goal

pub words_place-requires-clause-within : goal.words_place-requires-clause-within
words_place-requires-clause-within c k w r h =
    omega (arith, h, (landed_right k w.now).within)

pub returns : goal.returns
unfolding place17
returns c =
    c.words_place.ensures landed.after landed.final landed.goes landed_place (λ k w r h. h) (λ k r h. h) (λ k w r h. h)
