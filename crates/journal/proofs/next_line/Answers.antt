use Rattle.journal.proofs.Lines.{reads_more}
use Rattle.journal.proofs.next_line.Goals as goal

pub loop-preserved : goal.loop-preserved
loop-preserved g c = reads_more _ _ _ _ _ _ _ _ c.loop.invariant c.in-Open.is c.read_on-t.ensures
