-- `other::all_plain` meets its contract. Assumes nothing.
use mathlib.Core.Path.{◌∙◌}
use native.Mathlib.Omega.{arith}
use Rattle.text.proofs.Pairs.{pairs_next, pairs_end}
use Rattle.other.specs.Plain.{plain}
use Rattle.other.proofs.all_plain.Goals as goal

pub loop-i-preserved : goal.loop-i-preserved
loop-i-preserved c =
    let l = c.loop-i in
    pairs_next plain c.args.s.now l.i l.fine _ (omega arith) c.loop-i-test.true c.is_plain-fine.ensures ∙ l.invariant

pub returns : goal.returns
returns c =
    let l = c.loop-i in
    pairs_end plain c.args.s.now l.i l.fine (omega arith) c.loop-i-test.false ∙ l.invariant
