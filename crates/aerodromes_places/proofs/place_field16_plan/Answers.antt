-- `aerodromes_places::place_field16_plan` meets its contract. Assumes nothing.
use Rattle.std.proofs.Common.{rules, arith}
use Rattle.aerodromes_places.specs.Places.{plan, plan_place, place16plan}
use Rattle.aerodromes_places.proofs.Places.{plan_right}
use Rattle.aerodromes_places.proofs.place_field16_plan.Goals as goal

pub words_place-requires-clause-within : goal.words_place-requires-clause-within
words_place-requires-clause-within c k w r h =
    omega (arith, h, (plan_right k w.now).within)

pub returns : goal.returns
unfolding place16plan
returns c =
    c.words_place.ensures plan.after plan.final plan.goes plan_place (λ k w r h. h) (λ k r h. search rules) (λ k w r h. h)
