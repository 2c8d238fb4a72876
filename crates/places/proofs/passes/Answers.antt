-- `places::passes` meets its contract. Assumes nothing.
use mathlib.Core.Path.{sym, ◌∙◌}
use Rattle.std.proofs.Common.{rules, arith}
use Rattle.places.proofs.Index.{passes_stop, passes_next}
use Rattle.places.proofs.passes.Goals as goal

pub returns-then-not-test : goal.returns-then-not-test
returns-then-not-test g c v k =
    let w = c.args.w.now in
    let i = c.loop-i.i in
    let e = sym (k _ _ c.test.ensures) ∙ c.if-not-test.true in
    omega (arith, c.loop-i.invariant.1 v k, passes_stop v w i c.loop-i-test.true e)

pub loop-i-preserved : goal.loop-i-preserved
loop-i-preserved g c = (
  search rules,
  λ v k.
      let w = c.args.w.now in
      let i = c.loop-i.i in
      let e = sym (k _ _ c.test.ensures) ∙ c.if-not-test.false in
      omega (arith, c.loop-i.invariant.1 v k, passes_next v w i c.loop-i-test.true e),
)
