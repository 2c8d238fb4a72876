-- `demands::cause` meets its contract. Assumes nothing.
use Rattle.demands.proofs.Whys.{cause_shows}
use Rattle.demands.proofs.cause.Goals as goal

pub returns : goal.returns
returns c =
    cause_shows _ _ _ _ c.cause_of.ensures
