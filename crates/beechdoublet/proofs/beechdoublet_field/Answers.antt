-- `beechdoublet::beechdoublet_field` meets its contract. Assumes nothing.
use Rattle.beechdoublet.proofs.beechdoublet_field.Goals as goal

pub returns : goal.returns
returns c =
    let n = c.byte_of.ensures in
    let f = c.field_of.ensures in
    (rw (← n, ← f.value) c.tell_part.ensures.0, rw (← n, ← f.value) c.tell_part.ensures.1, rw (← n, ← f.value) f.shows)
