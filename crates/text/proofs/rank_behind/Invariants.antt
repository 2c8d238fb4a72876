use Prim.Native.Nat.{◌+◌, ◌*◌}
use mathlib.Core.Path.{◌≡◌}
use lib.ListN.{drop}
use Rattle.text.specs.Words.{rank_from, cells}
use Rattle.text.proofs.Index.{cells_from}
use Rattle.text.proofs.rank_behind.Given as goal

abbrev pub invariant-loop-k : goal.invariant-loop-k
invariant-loop-k l = rank_from (l.last + 1) l.w (drop l.last (cells l.width l.list))
    ≡ rank_from (l.k + 1) l.w (cells_from (l.k + 1) l.width (l.k * l.width) l.list)
