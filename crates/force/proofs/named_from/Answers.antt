-- `force::named_from` meets its contract. Assumes nothing.
use Rattle.force.proofs.Walk.{none_named}
use Rattle.force.proofs.named_from.Goals as goal

pub returns-then-k-eq0 : goal.returns-then-k-eq0
returns-then-k-eq0 c =
    none_named _ _ c.if-k-eq0.true
