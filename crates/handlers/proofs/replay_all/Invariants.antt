-- The board is that after the lines that were played.
use Rattle.std.proofs.Common.{◌≤◌}
use Rattle.racks.specs.Places.{board_in, Sized}
use Rattle.handlers.proofs.Walk.{Playing}
use Rattle.handlers.proofs.replay_all.Given as goal

abbrev pub invariant-loop : goal.invariant-loop
invariant-loop g l =
    (l.reader.at ≤ l.reader.got) × (l.reader.got ≤ 4096) × Sized l.now.places l.bytes × Playing (board_in l.now.places l.bytes)
