-- What is printed of pieces of document 01's listing. Assumes nothing.
use mathlib.Core.Path.{◌≡◌, sym, ap, ap₂, ◌∙◌}
use mathlib.Core.List.{List, ◌++◌}
use Prim.Native.Nat.{ℕ}
use native.Mathlib.Omega.{arith}
use Rattle.alphabet.specs.Text.{bytes}
use Rattle.message.specs.Answer.{Answer}
use Rattle.message.proofs.Examples.{cancelled, not_a_time}
use Rattle.lines.proofs.Rooms.{enough}
use Rattle.lines.proofs.Examples.{cancelled_line, not_a_time_line}
use Rattle.mark.specs.Mark.{ends_line, shown_as, mark_line, shown_line, drawn_at, drawn_for, marked_of}

abbrev refused : List ℕ
refused = bytes "(DLA-ABC12-EHAM2460-EDDF-0)"

-- a refusal with the mark under the 4 of 2460
pub marked_time : marked_of refused ≡ bytes "NO 7 13 16\n(DLA-ABC12-EHAM2460-EDDF-0)\n                ^\n"
unfolding marked_of drawn_at shown_line mark_line ends_line shown_as
marked_time = ap₂ ◌++◌ not_a_time_line (ap (λ (a : Answer). drawn_for a refused) (sym (enough refused 100 (omega arith)) ∙ not_a_time))

abbrev accepted : List ℕ
accepted = bytes "(CNL-ABC12-EHAM0930-EDDF-0)"

-- nothing below one that is taken
pub unmarked : marked_of accepted ≡ bytes "OK CNL (CNL-ABC12-EHAM0930-EDDF-0)\n"
unfolding marked_of
unmarked = ap₂ ◌++◌ cancelled_line (ap (λ (a : Answer). drawn_for a accepted) (sym (enough accepted 100 (omega arith)) ∙ cancelled))
