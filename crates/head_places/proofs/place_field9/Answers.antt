-- `head_places::place_field9` meets its contract. Assumes nothing.
use mathlib.Core.Path.{sym, ◌∙◌}
use native.Mathlib.Omega.{arith}
use lib.Seq.{length-take-le}
use Rattle.places.proofs.Index.{then_none, then_off, then_on, behind_within}
use Rattle.alphabet.specs.Alphabet.{digit}
use Rattle.head.specs.Field9.{count_fits}
use Rattle.head_places.specs.Places.{count_place, aircraft_place, place9}
use Rattle.head_places.proofs.Places.{digits_front, aircraft_within}
use native.Mathlib.Omega.{arith}
use Rattle.head_places.proofs.place_field9.Goals as goal

pub slice_bounds-two_digits-end : goal.slice_bounds-two_digits-end
slice_bounds-two_digits-end c =
    sym (length-take-le _ _ c.run-d.ensures.1)

pub returns-then-d-s : goal.returns-then-d-s
unfolding place9
returns-then-d-s c =
    let s = c.args.s.now in
    then_none digit count_fits count_place aircraft_place s c.run-d.result (c.run-d.ensures.0 ∙ digits_front s) c.two_digits.result
    c.if-d-s.true c.two_digits.ensures

pub slice_bounds-is_count-end : goal.slice_bounds-is_count-end
slice_bounds-is_count-end c =
    sym (length-take-le _ _ c.run-d.ensures.1)

pub slice_bounds-two_digits-end-then-not-is_count : goal.slice_bounds-two_digits-end-then-not-is_count
slice_bounds-two_digits-end-then-not-is_count c =
    sym (length-take-le _ _ c.run-d.ensures.1)

pub returns-then-not-is_count : goal.returns-then-not-is_count
unfolding place9
returns-then-not-is_count c =
    let s = c.args.s.now in
    then_off digit count_fits count_place aircraft_place s c.run-d.result (c.run-d.ensures.0 ∙ digits_front s) c.two_digits-then-not-is_count.result
    (sym c.is_count.ensures ∙ c.if-not-is_count.true) c.two_digits-then-not-is_count.ensures

pub overflow_add-result : goal.overflow_add-result
overflow_add-result c =
    omega (
      arith,
      behind_within aircraft_place aircraft_within c.args.s.now c.run-d.result c.place_aircraft.result c.run-d.ensures.1
          c.place_aircraft.ensures,
    )

pub returns : goal.returns
unfolding place9
returns c =
    let s = c.args.s.now in
    then_on digit count_fits count_place aircraft_place s c.run-d.result (c.run-d.ensures.0 ∙ digits_front s) c.place_aircraft.result
    (omega arith) (sym c.is_count.ensures ∙ c.if-not-is_count.false) c.place_aircraft.ensures
