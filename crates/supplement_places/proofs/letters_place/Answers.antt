-- `supplement_places::letters_place` meets its contract. Assumes nothing.
use mathlib.Core.Path.{◌∙◌}
use mathlib.Core.List.{[]}
use Rattle.std.proofs.Common.{rules}
use Rattle.supplement.specs.Field19.{some_of}
use Rattle.supplement_places.proofs.PlaceIndex.{letters_listed}
use Rattle.supplement_places.proofs.letters_place.Goals as goal

pub returns : goal.returns
returns c =
    c.passes.ensures (some_of c.args.set.now) (λ p r h. search rules) ∙ letters_listed c.args.set.now [] c.args.w.now
