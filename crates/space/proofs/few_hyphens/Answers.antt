-- `space::few_hyphens` meets its contract. Assumes nothing.
use Rattle.space.proofs.Index.{hyphens_here, hyphens_next, hyphens_end}
use native.Mathlib.Omega.{arith}
use Rattle.space.proofs.few_hyphens.Goals.{then-b-eq45, else-b-eq45}
use Rattle.space.proofs.few_hyphens.Goals as goal

pub returns : goal.returns
returns c =
    let l = c.loop-b in
    let m = c.args.s.now in
    omega (arith, l.invariant.2, hyphens_end m l.b-index c.loop-b-test.false)

pub loop-b-preserved : goal.loop-b-preserved
loop-b-preserved c =
    let l = c.loop-b in
    let m = c.args.s.now in
    elim c.if-b-eq45.branch [
      | then-b-eq45 w ↦ (omega arith, omega arith, omega (arith, l.invariant.2, hyphens_here m l.b-index c.loop-b-test.true w.if-b-eq45.true))
      | else-b-eq45 w ↦ (omega arith, omega arith, omega (arith, l.invariant.2, hyphens_next m l.b-index c.loop-b-test.true w.if-b-eq45.false))
    ]
