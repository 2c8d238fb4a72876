-- `canonical::words_length` meets its contract. Assumes nothing.
use Prim.Native.Nat.{◌-◌}
use mathlib.Core.Path.{ap}
use native.Mathlib.Omega.{arith}
use lib.ListN.{length, drop, length-append, length-drop}
use lib.Seq.{length-take-le}
use Rattle.canonical.specs.Rewriting.{rewritten_text}
use Rattle.canonical.proofs.Words.{text_last, text_next}
use Rattle.canonical.proofs.words_length.Goals as goal

pub loop-stage-init : goal.loop-stage-init
unfolding rewritten_text
loop-stage-init c =
    (omega arith, omega arith, omega arith)

pub returns-then-e-s : goal.returns-then-e-s
returns-then-e-s c =
    let s = c.args.s.now in
    let l = c.loop-stage in
    let e = c.find-e in
    let r = c.step-stage in
    let t = text_last l.stage r.result s l.at e.result e.ensures.value r.ensures (omega arith) in
    omega (arith, l.invariant.2, c.word_length-n.ensures.0, simp length-append at (ap length t))

pub loop-stage-preserved : goal.loop-stage-preserved
loop-stage-preserved c =
    let s = c.args.s.now in
    let l = c.loop-stage in
    let e = c.find-e in
    let r = c.step-stage in
    let t = text_next l.stage r.result s l.at e.result e.ensures.value r.ensures (omega arith) in
    let w = c.word_length-n.ensures in
    let k = length-take-le (e.result - l.at) (drop l.at s) (rw length-drop (omega arith)) in
    (omega arith, omega (arith, w.1, k, l.invariant.1), omega (arith, l.invariant.2, w.0, simp length-append at (ap length t)))
