use Rattle.std.specs.Prelude.{length}
use Rattle.dates.proofs.Walk.{Turn}
use Rattle.dates.proofs.place_of.Given as goal

abbrev pub invariant-loop-word : goal.invariant-loop-word
invariant-loop-word l = Turn l.s (length l.yielded) l.at
