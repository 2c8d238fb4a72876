-- `space::all_stay` meets its contract. Assumes nothing.
use mathlib.Core.Path.{sym, ◌∙◌}
use Rattle.space.proofs.Stays.{stay_stop, stay_next, stay_end}
use native.Mathlib.Omega.{arith}
use Rattle.space.proofs.all_stay.Goals as goal

pub returns-then-not-byte_stays : goal.returns-then-not-byte_stays
returns-then-not-byte_stays c =
    let l = c.loop-i in
    sym (stay_stop c.args.s.now l.last l.i c.loop-i-test.true (sym c.byte_stays.ensures ∙ c.if-not-byte_stays.true)) ∙ l.invariant.1

pub loop-i-preserved : goal.loop-i-preserved
loop-i-preserved c =
    let l = c.loop-i in
    let h = sym c.byte_stays.ensures ∙ c.if-not-byte_stays.false in
    (omega arith, sym (stay_next c.args.s.now l.last l.i c.loop-i-test.true h) ∙ l.invariant.1)

pub returns : goal.returns
returns c =
    let l = c.loop-i in
    sym (stay_end c.args.s.now l.last l.i c.loop-i-test.false) ∙ l.invariant.1
