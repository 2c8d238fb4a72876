-- `board_numbers::put_row` meets its contract. Assumes nothing.
use Prim.Native.Nat.{ℕ}
use mathlib.Core.Path.{ap}
use mathlib.Core.List.{List, ◌++◌}
use lib.ListN.{length, drop}
use Rattle.text.specs.Lent.{front}
use Rattle.board_numbers.proofs.put_row.Goals as goal

pub returns : goal.returns
unfolding front
returns c =
    let a = c.args in ap (λ (l : List ℕ). l ++ drop (length a.row.now) a.out.now) c.copy_from_slice.ensures.after
