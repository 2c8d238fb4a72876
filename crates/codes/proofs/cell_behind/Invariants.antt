use Prim.Native.Nat.{◌+◌, ◌*◌}
use mathlib.Core.Path.{◌≡◌}
use mathlib.Core.List.{[], ◌∷◌}
use lib.ListN.{drop}
use Rattle.text.specs.Words.{before, rank_from, cells}
use Rattle.codes.proofs.Pairs.{pairs}
use Rattle.codes.proofs.cell_behind.Given as goal

abbrev pub invariant-loop-k : goal.invariant-loop-k
invariant-loop-k l = let w = before 32 (l.b ∷ (l.c ∷ [])) in
    rank_from (l.f + 1) w (cells 2 (drop (2 * l.f) l.list)) ≡ rank_from (l.k + 1) w (pairs (drop (2 * l.k) l.list))
