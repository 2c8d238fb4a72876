use Rattle.journal.proofs.Lines.{reads_last, not_ended}
use Rattle.journal.proofs.next_of_input.Goals as goal

pub returns-in_default-stage : goal.returns-in_default-stage
returns-in_default-stage g c = reads_last _ _ _ _ _ c.next_line-t.ensures (not_ended _ c.in_default-stage.not-Ended)
