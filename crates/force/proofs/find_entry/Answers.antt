-- `force::find_entry` meets its contract. Assumes nothing.
use mathlib.Core.Path.{sym, subst}
use Rattle.force.specs.declared.Entries.{Entries}
use Rattle.force.specs.InForce.{entries_left}
use Rattle.force.proofs.Walk.{Turn, turn_first, turn_found, turn_next}
use Rattle.force.proofs.find_entry.Goals as goal

pub loop-entry-init : goal.loop-entry-init
loop-entry-init c =
    let a = c.args in
    subst (λ (it : Entries). Turn a.chg.now a.k a.first.at (entries_left it)) (sym c.into_iter-entry-iterator.ensures.into_iter_gives)
    (turn_first c.requires.0 c.requires.1.0 c.requires.1.1)

pub returns-then-rank_in-k : goal.returns-then-rank_in-k
returns-then-rank_in-k c =
    turn_found c.requires.0 c.loop-entry.invariant c.in-Some.entry.now _ c.in-Some.ensures.steps
    c.rank_in.ensures.0 c.if-rank_in-k.true c.next-content.ensures

pub loop-entry-preserved : goal.loop-entry-preserved
loop-entry-preserved c =
    turn_next c.requires.0 c.loop-entry.invariant c.in-Some.entry.now _ c.in-Some.ensures.steps c.rank_in.ensures.0 c.if-rank_in-k.false
