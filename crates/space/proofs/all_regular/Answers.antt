-- `space::all_regular` meets its contract. Assumes nothing.
use mathlib.Core.Path.{◌∙◌}
use native.Mathlib.Omega.{arith}
use Rattle.text.proofs.Pairs.{pairs_next, pairs_end}
use Rattle.space.specs.Stays.{regular}
use Rattle.space.proofs.all_regular.Goals as goal

pub loop-i-preserved : goal.loop-i-preserved
loop-i-preserved c =
    let l = c.loop-i in
    let s = c.args.s.now in
    (omega arith, pairs_next regular s l.i l.fine _ l.invariant.0 c.loop-i-test.true c.is_regular-fine.ensures ∙ l.invariant.1)

pub returns : goal.returns
returns c =
    let l = c.loop-i in
    pairs_end regular c.args.s.now l.i l.fine l.invariant.0 c.loop-i-test.false ∙ l.invariant.1
