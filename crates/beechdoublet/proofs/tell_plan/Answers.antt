-- `beechdoublet::tell_plan` meets its contract. Assumes nothing.
use Rattle.beechdoublet.proofs.tell_plan.Goals as goal

pub returns-in-Ok : goal.returns-in-Ok
returns-in-Ok c =
    let e = c.in-Ok.is in (rw e, rw e c.parts_numbers.ensures)

pub returns-in-Err : goal.returns-in-Err
returns-in-Err c =
    let e = c.in-Err.is in (rw e, rw e)
