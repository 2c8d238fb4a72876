-- `kinds::filled` meets its contract. Assumes nothing.
use mathlib.Core.Path.{sym, ap, ◌∙◌}
use lib.ListN.{length}
use lib.Seq.{length-take-le}
use Rattle.kinds.proofs.Fields.{filled_at}
use Rattle.kinds.proofs.filled.Goals as goal

pub returns : goal.returns
returns g c =
    let k = c.copy_from_slice.ensures in
    let long = sym (ap length k.after) ∙ k.len ∙ length-take-le g.row.N _ c.requires in
    λ j h. filled_at c.args.forms _ g.row.N j k.after (sym long) c.requires h
