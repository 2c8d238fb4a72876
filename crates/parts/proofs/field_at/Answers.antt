-- `parts::field_at` meets its contract. Assumes nothing.
use Rattle.opening.proofs.Steps.{inner_slice}
use Rattle.parts.proofs.Own.{field_found}
use Rattle.parts.proofs.field_at.Goals as goal

pub returns : goal.returns
returns c =
    let s = c.seek-c.ensures in
    field_found c.args.m.now c.requires.0 c.requires.2 c.args.j _ (inner_slice c.args.m.now) _ _ s.0 s.1 c.end-e.ensures.value
