-- `demands::read` meets its contract. Assumes nothing.
use Rattle.demands.proofs.Demands.{read_demanded}
use Rattle.demands.proofs.read.Goals as goal

pub returns : goal.returns
returns c =
    let told = read_demanded _ _ _ _ c.read.ensures in record { reads = told.0; demand1 = told.1.0; demand2 = told.1.1 }
