-- The lines of the pieces that were met are written; each takes no more than nine times its piece.
use Rattle.std.proofs.Common.{◌-◌, ◌*◌, ◌≡◌, ◌≤◌, length}
use Rattle.lines.specs.Lines.{line_of}
use Rattle.lines.proofs.Pieces.{At}
use Rattle.listing.proofs.put_list.Given as goal

abbrev pub invariant-loop-at : goal.invariant-loop-at
invariant-loop-at l = At line_of l.s l.initial.out l.out l.o l.at × (l.o ≤ 9 * l.at) × (length l.out ≡ length l.initial.out)

abbrev pub decreases-loop-at : goal.decreases-loop-at
decreases-loop-at l = length l.s - l.at
