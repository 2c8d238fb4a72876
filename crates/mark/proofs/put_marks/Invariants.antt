-- What is said of the pieces that were met is written; of each it takes no more than fourteen times the piece.
use Rattle.std.proofs.Common.{◌-◌, ◌*◌, ◌≡◌, ◌≤◌, length}
use Rattle.lines.proofs.Pieces.{At}
use Rattle.mark.specs.Mark.{marked_of}
use Rattle.mark.proofs.put_marks.Given as goal

abbrev pub invariant-loop-at : goal.invariant-loop-at
invariant-loop-at l = At marked_of l.s l.initial.out l.out l.o l.at × (l.o ≤ 14 * l.at) × (length l.out ≡ length l.initial.out)

abbrev pub decreases-loop-at : goal.decreases-loop-at
decreases-loop-at l = length l.s - l.at
