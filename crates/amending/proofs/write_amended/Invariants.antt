use Rattle.amending.proofs.Writing.{AtField, Amending}
use Rattle.amending.proofs.write_amended.Given as goal

abbrev pub invariant-loop-k : goal.invariant-loop-k
invariant-loop-k l = Amending l.role l.plan l.said l.initial.out l.out l.o l.k × AtField l.plan l.k l.c.at
