-- `beechdoublet::beechdoublet_update` meets its contract. Assumes nothing.
use Rattle.beechdoublet.proofs.beechdoublet_update.Goals as goal

pub returns : goal.returns
returns c =
    let u = c.updated.ensures in
    let h = c.hand_in-held.ensures in
    let t = c.tell_update.ensures in
    (rw (← h, ← u.0) t.0, rw (← h, ← u.0) t.1, rw (← h, ← u.0) t.2, rw (← h) u.1)
