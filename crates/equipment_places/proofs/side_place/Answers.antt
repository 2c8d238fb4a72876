-- `equipment_places::side_place` meets its contract. Assumes nothing.
use Prim.Native.Nat.{ℕ}
use mathlib.Core.Path.{ap, ◌∙◌}
use Rattle.places.specs.Parts.{larger}
use Rattle.equipment_places.specs.Places.{side_place}
use Rattle.equipment_places.proofs.side_place.Goals as goal

pub returns : goal.returns
unfolding side_place
returns c =
    let alone = c.matched_of in
    let codes = c.codes_place in
    c.max.ensures ∙ ap (λ (p : ℕ). larger p codes.result) alone.ensures ∙ ap (larger _) codes.ensures
