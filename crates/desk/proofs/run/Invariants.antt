-- What the desk then holds after the pieces ahead is what it holds after all.
use Rattle.std.proofs.Common.{length, ◌≡◌}
use Rattle.std.specs.Prelude.{None}
use Rattle.pieces.specs.Pieces.{pieces_of, pieces_left}
use Rattle.desk.specs.Desk.{standing_in, InRoom, after_all}
use Rattle.desk.proofs.run.Given as goal

abbrev pub invariant-loop-piece : goal.invariant-loop-piece
invariant-loop-piece g l =
    (length l.strip ≡ 1800) × InRoom l.desk
    × (after_all (standing_in l.desk l.strip) (pieces_left l.piece-iterator) ≡ after_all None (pieces_of l.s))
