-- `space::is_reduced` meets its contract. Assumes nothing.
use Prim.Native.Nat.{◌+◌, ◌*◌, ◌/◌}
use mathlib.Core.Path.{◌≡◌, sym, ◌∙◌}
use Rattle.space.proofs.Stays.{stay_block, stay_rest}
use native.Mathlib.Omega.{arith}
use Rattle.space.proofs.is_reduced.Goals as goal

pub returns-then-not-all_regular : goal.returns-then-not-all_regular
returns-then-not-all_regular c =
    let l = c.loop-k in
    stay_rest c.args.msg.now l.last (16 * l.k) _ c.all_stay.ensures l.invariant.1

pub loop-k-preserved : goal.loop-k-preserved
loop-k-preserved c =
    let l = c.loop-k in
    let h = sym c.all_regular.ensures ∙ c.if-not-all_regular.false in
    let z : 16 * (l.k + 1) ≡ 16 * l.k + 16 = omega arith in
    rw z (omega arith, sym (stay_block c.args.msg.now l.last (16 * l.k) (omega (arith, c.loop-k-test.true)) h) ∙ l.invariant.1)

pub returns : goal.returns
returns c =
    let l = c.loop-k in
    let e : c.saturating_sub-blocks.result / 16 ≡ l.k = omega (arith, l.invariant.0, c.loop-k-test.false) in
    stay_rest c.args.msg.now l.last (16 * l.k) _ (rw e at c.all_stay-2.ensures) l.invariant.1
