-- `beechdoublet::parts_numbers` meets its contract. Assumes nothing.
use Rattle.beechdoublet.proofs.Steps.{date_laid}
use Rattle.beechdoublet.proofs.parts_numbers.Goals as goal

pub returns : goal.returns
returns c =
    rw (date_laid c.args.p.date c.date_numbers-date.result c.date_numbers-date.ensures)
