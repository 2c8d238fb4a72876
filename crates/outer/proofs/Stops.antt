-- Number 2 where the bytes end: at the length. Assumes nothing.
use Rattle.std.specs.Prelude.{Err}
use Prim.Native.Nat.{ℕ, ◌≤◌}
use mathlib.Core.Path.{◌≡◌}
use mathlib.Core.List.{List}
use lib.ListN.{length, drop}
use Rattle.text.proofs.Index.{drop_end}
use Rattle.outer.specs.Refusal.{refusal}
use Rattle.outer.specs.Outer.{parens_from}

pub parens_end : (m : List ℕ) (i : ℕ) → length m ≤ i → parens_from i (drop i m) ≡ Err (refusal 2 0 i)
unfolding parens_from
parens_end m i h = rw (drop_end m i h)
