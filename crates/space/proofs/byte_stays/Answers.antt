-- `space::byte_stays` meets its contract. Assumes nothing.
use Rattle.space.proofs.Stays.{space_stays, other_stays}
use Rattle.space.proofs.byte_stays.Goals as goal

pub returns-then-b-eq32 : goal.returns-then-b-eq32
returns-then-b-eq32 c =
    let a = c.args in
    space_stays a.last a.b a.behind.now _ c.if-b-eq32.true c.stands_for_run.ensures

pub returns : goal.returns
returns c =
    let a = c.args in
    other_stays a.last a.b a.behind.now _ c.if-b-eq32.false c.is_white.ensures
