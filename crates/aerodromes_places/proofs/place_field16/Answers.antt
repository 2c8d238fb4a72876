-- `aerodromes_places::place_field16` meets its contract. Assumes nothing.
use mathlib.Core.Path.{◌∙◌}
use Rattle.alphabet.specs.Alphabet.{letter}
use Rattle.places.proofs.Index.{fixed_run}
use Rattle.aerodromes_places.proofs.place_field16.Goals as goal

pub returns : goal.returns
returns c =
    c.run_place.ensures ∙ fixed_run letter 4 c.args.s.now
