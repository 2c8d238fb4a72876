use mathlib.Core.Path.{ap}
use native.Mathlib.Omega.{arith}
use Rattle.journal.specs.Lines.{has_ended}
use Rattle.journal.proofs.Lines.{not_ended}
use Rattle.handlers.proofs.Walk.{serving_none, serving_next, serving_all, serving_end}
use Rattle.handlers.proofs.serve.Goals as goal

pub loop-init : goal.loop-init
loop-init g c = (omega arith, omega arith, c.requires, serving_none _ _)

pub returns-in_default : goal.returns-in_default
returns-in_default g c =
    let i = c.loop.invariant in
    record { served = serving_all _ _ _ i.3 _ _ _ _ c.next_of_input-t.ensures (not_ended _ c.in_default.not-Ended); sized = i.2 }

pub loop-preserved : goal.loop-preserved
loop-preserved g c =
    let r = c.next_of_input-t.ensures in (
      r.lies.in_order_lem,
      r.lies.in_chunk,
      c.end_line-now.ensures.sized,
      serving_next _ _ _ c.loop.invariant.3 _ _ _ _ r _ (ap has_ended c.in-Ended.is) c.end_line-now.ensures.board_is,
    )

pub returns : goal.returns
returns g c = let i = c.loop.invariant in record { served = serving_end _ _ _ i.3; sized = i.2 }
