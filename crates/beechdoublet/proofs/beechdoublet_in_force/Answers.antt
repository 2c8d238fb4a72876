-- `beechdoublet::beechdoublet_in_force` meets its contract. Assumes nothing.
use Rattle.beechdoublet.proofs.beechdoublet_in_force.Goals as goal

pub returns : goal.returns
returns c =
    let q = c.asked_of.ensures in
    let h = c.hand_in.ensures in
    (rw (← h, ← q.0) c.tell_asked.ensures.0, rw (← h, ← q.0) c.tell_asked.ensures.1, rw (← h, ← q.0) q.1)
