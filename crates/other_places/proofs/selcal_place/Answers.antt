-- `other_places::selcal_place` meets its contract. Assumes nothing.
use mathlib.Core.Path.{◌∙◌}
use Rattle.alphabet.specs.Alphabet.{letter}
use Rattle.places.proofs.Index.{fixed_run}
use Rattle.other_places.proofs.selcal_place.Goals as goal

pub returns : goal.returns
returns c =
    c.run_place.ensures ∙ fixed_run letter 4 c.args.w.now
