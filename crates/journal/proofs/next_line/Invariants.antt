-- What the reads so far have made of what was left.
use Rattle.journal.specs.Lines.{ReadsOn, fresh, left_in}
use Rattle.journal.proofs.next_line.Given as goal

abbrev pub invariant-loop : goal.invariant-loop
invariant-loop g l = ReadsOn fresh (left_in l.fn.reader l.fn.chunk) l.t l.chunk l.line
