-- `racks::write_at` meets its contract. Assumes nothing.
use Prim.Native.Nat.{◌*◌}
use Rattle.text.proofs.Lent.{lent}
use Rattle.racks.specs.Places.{written}
use Rattle.racks.proofs.write_at.Goals as goal

pub returns : goal.returns
unfolding written
returns c =
    let a = c.args in
    lent a.bytes.now a.part.now (1800 * a.i) _ c.put.ensures.1
