-- `beechdoublet::tell_part` meets its contract. Assumes nothing.
use Rattle.beechdoublet.proofs.tell_part.Goals as goal

pub returns-in-Ok : goal.returns-in-Ok
returns-in-Ok c =
    let e = c.in-Ok.is in (rw e, rw e)

pub returns-in-Err : goal.returns-in-Err
returns-in-Err c =
    let e = c.in-Err.is in (rw e, rw (e, c.field_told-told.ensures))
