-- `beechdoublet::beechdoublet_read` meets its contract. Assumes nothing.
use mathlib.Core.Path.{ap, ◌∙◌}
use Rattle.beechdoublet.specs.Numbers.{read_number, read_numbers}
use Rattle.beechdoublet.proofs.beechdoublet_read.Goals as goal

pub returns : goal.returns
returns c =
    let u = c.read.ensures in
    let t = c.tell_read.ensures in
    (t.0 ∙ ap read_number u.0, t.1 ∙ ap read_numbers u.0, u.1)
