use Rattle.force.specs.InForce.{entries_left}
use Rattle.force.proofs.Walk.{Turn}
use Rattle.force.proofs.find_entry.Given as goal

abbrev pub invariant-loop-entry : goal.invariant-loop-entry
invariant-loop-entry l = Turn l.chg l.k l.at (entries_left l.entry-iterator)
