-- The places so far are read, and those ahead are the rest of the board.
use mathlib.Core.Path.{◌≡◌}
use mathlib.Core.List.{◌++◌}
use lib.ListN.{length, take}
use Rattle.board_numbers.specs.Numbers.{board_of}
use Rattle.board_numbers.proofs.Rows.{ahead}
use Rattle.board_numbers.proofs.places_of.Given as goal

abbrev pub invariant-loop-i : goal.invariant-loop-i
invariant-loop-i l = (length l.places ≡ 20) × (take l.i l.places ++ ahead l.numbers l.i ≡ board_of l.numbers)
