-- `other_places::place_field18` meets its contract. Assumes nothing.
use mathlib.Core.Path.{ap, ◌∙◌}
use Rattle.places.specs.Parts.{larger}
use Rattle.other_places.specs.Places.{place18, items_place}
use Rattle.other_places.proofs.place_field18.Goals as goal

pub returns : goal.returns
unfolding place18
returns c =
    let items = c.place_edition in
    let none = c.matched_of in
    c.max.ensures ∙ ap (λ x. larger x items.result) none.ensures
    ∙ ap (larger _) (items.ensures ∙ ap (λ ed. items_place ed c.args.s.now) c.base.ensures.0)
