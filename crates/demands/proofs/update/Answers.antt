-- `demands::update` meets its contract. Assumes nothing.
use Rattle.demands.proofs.Turns.{update_demanded}
use Rattle.demands.proofs.update.Goals as goal

pub returns : goal.returns
returns c =
    let told = update_demanded _ _ _ _ c.update.ensures in record { updates = told.0; turns = told.1 }
