use mathlib.Core.Path.{◌≡◌}
use lib.ListN.{length, drop}
use Rattle.text.proofs.Lent.{Writing}
use Rattle.canonical.specs.Canonical.{sorted}
use Rattle.canonical.proofs.put_sorted.Given as goal

abbrev pub invariant-loop-b : goal.invariant-loop-b
invariant-loop-b l = (length l.out ≡ length l.initial.out) × Writing (sorted l.set l.w) l.initial.out l.out l.o (sorted (drop l.b-index l.set) l.w)
