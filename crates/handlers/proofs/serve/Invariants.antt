-- The board is that after the lines that were taken.
use Rattle.std.proofs.Common.{◌≤◌}
use Rattle.racks.specs.Places.{board_in, Sized}
use Rattle.handlers.specs.Walk.{keeps}
use Rattle.handlers.proofs.Walk.{Serving}
use Rattle.handlers.proofs.serve.Given as goal

abbrev pub invariant-loop : goal.invariant-loop
invariant-loop g l =
    (l.reader.at ≤ l.reader.got) × (l.reader.got ≤ 4096) × Sized l.now.places l.bytes
    × Serving (keeps l.fn.journal) (board_in l.fn.board.places l.fn.bytes) (board_in l.now.places l.bytes)
