-- `beechdoublet::date_numbers` meets its contract. Assumes nothing.
use Rattle.beechdoublet.proofs.date_numbers.Goals as goal

pub returns-in-Some : goal.returns-in-Some
returns-in-Some c =
    rw c.in-Some.is
