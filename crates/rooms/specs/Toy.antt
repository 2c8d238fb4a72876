-- Toy strips, to compute runs with: a strip is a number, a message adds to it, and at 10 it is over. Assumes nothing.
use Rattle.std.specs.Prelude.{ℕ, ◌+◌, cond, leb}
use Rattle.rooms.specs.Rooms.{House, Act, Call}
use Rattle.rooms.specs.Rooms.Outcome.{takes, refuses}

abbrev pub toy : House
toy =
    record {
      Strip = ℕ;
      Message = ℕ;
      Why = ℕ;
      filing = λ m. cond (leb m 9) (takes m) (refuses 7);
      updating = λ s m. cond (leb s 9) (takes (s + m)) (refuses 13);
      over = λ s. leb 10 s;
    }

abbrev pub by : ℕ → Act ℕ → Call ℕ
by n a = record { by = n; does = a }
