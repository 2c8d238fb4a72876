-- `beechdoublet::tell_cause` meets its contract. Assumes nothing.
use Rattle.beechdoublet.proofs.tell_cause.Goals as goal

pub returns-in-Another : goal.returns-in-Another
returns-in-Another c =
    let e = c.in-Another.is in (rw e, rw e c.set_numbers.ensures)

pub returns-in-Missing : goal.returns-in-Missing
returns-in-Missing c =
    let e = c.in-Missing.is in (rw e, rw e (rw c.key_number.ensures))

pub returns-in-Forbidden : goal.returns-in-Forbidden
returns-in-Forbidden c =
    let e = c.in-Forbidden.is in (rw e, rw e c.found_numbers.ensures)
