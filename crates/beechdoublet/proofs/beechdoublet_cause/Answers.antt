-- `beechdoublet::beechdoublet_cause` meets its contract. Assumes nothing.
use Rattle.beechdoublet.proofs.beechdoublet_cause.Goals as goal

pub returns : goal.returns
returns c =
    rw (← c.hand_in.ensures, ← c.cause_as.ensures) c.tell_cause.ensures
