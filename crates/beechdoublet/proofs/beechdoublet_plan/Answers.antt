-- `beechdoublet::beechdoublet_plan` meets its contract. Assumes nothing.
use Rattle.beechdoublet.proofs.beechdoublet_plan.Goals as goal

pub returns : goal.returns
returns c =
    let f = c.plan_parts.ensures in
    (rw (← f.value) c.tell_plan.ensures.0, rw (← f.value) c.tell_plan.ensures.1, rw (← f.value) f.shows_plan)
