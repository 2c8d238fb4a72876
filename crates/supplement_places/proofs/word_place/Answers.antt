-- `supplement_places::word_place` meets its contract. Assumes nothing.
use mathlib.Core.Path.{ap₂, ◌∙◌}
use native.Mathlib.Omega.{arith}
use Rattle.places.specs.Parts.{larger}
use Rattle.supplement_places.proofs.PlaceIndex.{word_within}
use Rattle.supplement_places.proofs.word_place.Goals as goal

pub returns : goal.returns
returns c =
    let a = c.args in
    let e = c.max.ensures ∙ ap₂ larger c.further_place.ensures c.item_place.ensures in
    let l = word_within a.stage a.w.now in
    (e, omega (arith, e))
