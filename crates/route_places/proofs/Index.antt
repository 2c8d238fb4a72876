-- The places of field 15 where the code stands. Assumes nothing.
use mathlib.Core.Path.{◌≡◌, ap}
use mathlib.Core.List.{List}
use Rattle.text.specs.Words.{Word, split}
use Rattle.shape.specs.Shape.{wides}
use Rattle.places.specs.Parts.{farthest}
use Rattle.route.specs.Levels.{starts, changes, climbs}
use Rattle.route_places.specs.Places.{pair_place}
use Rattle.route.proofs.Index.{starts_text, starts_wide, changes_text, changes_wide, climbs_text, climbs_wide}

-- A LIST OF SHAPES

pub starts_far : (w : Word) → farthest (split 32 starts_text) w ≡ farthest (wides starts) w
starts_far w = ap (λ (ts : List Word). farthest ts w) starts_wide

pub changes_far : (w : Word) → pair_place (split 32 changes_text) w ≡ pair_place (wides changes) w
changes_far w = ap (λ (ts : List Word). pair_place ts w) changes_wide

pub climbs_far : (w : Word) → pair_place (split 32 climbs_text) w ≡ pair_place (wides climbs) w
climbs_far w = ap (λ (ts : List Word). pair_place ts w) climbs_wide
