-- Document 01's input and what is printed for it, with the place of the 4 of 2460. Assumes nothing.
use mathlib.Core.Path.{◌≡◌, refl, ap, ap₂, ◌∙◌}
use mathlib.Core.List.{List, [], ◌∷◌, ◌++◌}
use Prim.Native.Nat.{ℕ}
use Rattle.alphabet.specs.Text.{bytes}
use Rattle.alphabet.specs.Alphabet.{white}
use Rattle.pieces.specs.Pieces.{pieces_of}
use Rattle.lines.specs.Lines.{line_of, each}
use Rattle.lines.proofs.Examples.{cancelled_line, not_a_time_line, not_read_line}
use Rattle.listing.specs.Listing.{listed}

abbrev sent : List ℕ
sent = bytes "(CNL-ABC12-EHAM0930-EDDF-0)\n(DLA-ABC12-EHAM2460-EDDF-0)\n(ACP-ABC12)\n"

cut : pieces_of sent ≡ bytes "(CNL-ABC12-EHAM0930-EDDF-0)" ∷ bytes "(DLA-ABC12-EHAM2460-EDDF-0)" ∷ bytes "(ACP-ABC12)" ∷ []
unfolding pieces_of white
cut = refl

pub document_01 : listed sent ≡ bytes "OK CNL (CNL-ABC12-EHAM0930-EDDF-0)\nNO 7 13 16\nNO 5 3 0\n"
document_01 =
    ap (each line_of) cut
    ∙ ap₂ ◌++◌ cancelled_line (ap₂ ◌++◌ not_a_time_line (ap (λ (w : List ℕ). w ++ []) not_read_line))
