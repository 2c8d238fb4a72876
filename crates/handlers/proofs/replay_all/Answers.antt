use mathlib.Core.Path.{sym, ap, subst, ◌∙◌}
use native.Mathlib.Omega.{arith}
use Rattle.std.proofs.Common.{length}
use lib.ListN.{length-replicate}
use Rattle.racks.specs.Places.{vacant, board_in}
use Rattle.handlers.specs.Walk.{PlayedAll}
use Rattle.journal.specs.Lines.{has_ended}
use Rattle.journal.proofs.Lines.{not_ended}
use Rattle.handlers.proofs.Walk.{playing_none, playing_next, playing_all}
use Rattle.handlers.proofs.replay_all.Goals as goal

pub loop-init : goal.loop-init
loop-init g c = (
  omega arith,
  omega arith,
  record { places = ap length c.empty-now.ensures ∙ length-replicate 20 vacant; room = c.requires },
  playing_none _ _ c.empty-now.ensures,
)

pub returns-in_default : goal.returns-in_default
returns-in_default g c =
    let i = c.loop.invariant in
    let all = playing_all _ i.3 _ _ _ _ c.next_of_journal-t.ensures (not_ended _ c.in_default.not-Ended) in
    record { played = λ e. subst (PlayedAll (board_in c.loop.now.places c.loop.bytes)) (sym c.count.ensures) all; sized = i.2 }

pub loop-preserved : goal.loop-preserved
loop-preserved g c =
    let h = c.next_of_journal-t.ensures in
    let r = c.replay_end-r.ensures in (
      h.lies.in_order_lem,
      h.lies.in_chunk,
      r.ends.sized,
      playing_next _ c.loop.invariant.3 _ _ _ _ h _ (ap has_ended c.in-Ended.is) r.ends.board_is (sym r.going_is ∙ c.if-not-r.false),
    )
