use Rattle.space.proofs.Part.{Bytewise}
use Rattle.space.proofs.reduce_part.Given as goal

abbrev pub invariant-loop-i : goal.invariant-loop-i
invariant-loop-i l = Bytewise l.msg l.initial.buf l.from l.to l.at l.buf l.last l.n l.i
