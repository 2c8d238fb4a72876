-- `supplement_places::item_place` meets its contract. Assumes nothing.
use Rattle.std.proofs.Common.{arith, get_or}
use Rattle.places.proofs.Index.{behind_within}
use Rattle.supplement.specs.Field19.{by_letter}
use Rattle.supplement_places.specs.Places.{first_word_place}
use Rattle.supplement_places.proofs.WordPlaces.{key_right}
use Rattle.supplement_places.proofs.item_place.Goals as goal

pub overflow_add-result : goal.overflow_add-result
overflow_add-result c =
    let w = c.args.w.now in
    let key = by_letter (get_or w 0 0) in
    omega (arith, behind_within (first_word_place key) (λ v. (key_right key v).within) w 2 c.first_place.result (omega arith) c.first_place.ensures)
