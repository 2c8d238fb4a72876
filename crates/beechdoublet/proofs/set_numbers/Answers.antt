-- `beechdoublet::set_numbers` meets its contract. Assumes nothing.
use Rattle.beechdoublet.proofs.set_numbers.Goals as goal

pub returns : goal.returns
returns c =
    rw (c.flag_of.ensures, c.flag_of-2.ensures, c.flag_of-3.ensures, c.flag_of-4.ensures, c.flag_of-5.ensures)
