-- The numbers of the places so far are written, and the rest of `out` is as it was.
use Prim.Native.Nat.{◌*◌}
use mathlib.Core.Path.{◌≡◌}
use lib.ListN.{length}
use Rattle.board_numbers.proofs.Rows.{so_far}
use Rattle.board_numbers.proofs.put_places.Given as goal

abbrev pub invariant-loop-i : goal.invariant-loop-i
invariant-loop-i l = (length l.out ≡ 200) × (l.out ≡ so_far l.board.places l.fn.out (10 * l.i))
