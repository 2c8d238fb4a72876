-- `head_places::place_field7` meets its contract. Assumes nothing.
use Rattle.std.proofs.Common.{rules}
use Rattle.alphabet.specs.Text.{bytes}
use Rattle.alphabet.specs.Alphabet.{sign}
use Rattle.places.specs.Parts.{run_place, along}
use Rattle.head.specs.Field7.{identification_fits}
use Rattle.head_places.specs.Places.{place7}
use Rattle.head_places.proofs.place_field7.Goals as goal

pub returns : goal.returns
unfolding place7
returns c =
    c.cut_place.ensures identification_fits (run_place 7 sign) (along (bytes "Aoooo"))
    (λ w r h. search rules) (λ w r h. search rules) (λ w r h. search rules)
