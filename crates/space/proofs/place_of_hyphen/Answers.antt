-- `space::place_of_hyphen` meets its contract. Assumes nothing.
use mathlib.Core.Path.{sym}
use Rattle.space.proofs.Index.{place_here, place_past, place_next, place_end, place_zero, place_some}
use native.Mathlib.Omega.{arith}
use Prim.Native.Nat.{ℕ, ◌+◌}
use mathlib.Core.Path.{ap}
use lib.ListN.{drop}
use Rattle.space.specs.Hyphens.{up_to_hyphen}
use Rattle.space.proofs.place_of_hyphen.Goals.{then-msg-i-eq45+else-left-eq0, else-msg-i-eq45}
use Rattle.space.proofs.place_of_hyphen.Goals as goal

pub returns-then-j-eq0 : goal.returns-then-j-eq0
returns-then-j-eq0 c =
    sym (place_zero _ _ c.if-j-eq0.true)

pub returns-then-left-eq0 : goal.returns-then-left-eq0
returns-then-left-eq0 c =
    let a = c.args in
    let m = a.msg.now in
    let h = c.loop-i-test.true in
    omega (
      arith,
      place_here m c.loop-i.i h c.loop-i.left c.if-left-eq0.true c.if-msg-i-eq45.true,
      place_some m a.j c.if-j-eq0.false,
      c.loop-i.invariant,
    )

pub returns : goal.returns
returns c =
    let a = c.args in
    let m = a.msg.now in
    omega (arith, place_some m a.j c.if-j-eq0.false, c.loop-i.invariant.1, place_end m c.loop-i.left c.loop-i.i c.loop-i-test.false)

pub loop-i-preserved : goal.loop-i-preserved
loop-i-preserved c =
    let l = c.loop-i in
    let m = c.args.msg.now in
    let k = c.if-msg-i-eq45.left in
    elim c.if-msg-i-eq45.branch [
      | then-msg-i-eq45+else-left-eq0 w ↦ (
        omega arith,
        omega (
          arith,
          l.invariant.1,
          place_past m l.i c.loop-i-test.true l.left w.if-left-eq0.false w.if-msg-i-eq45.true,
          ap (λ (n : ℕ). up_to_hyphen n (drop (l.i + 1) m)) w.left-is,
        ),
      )
      | else-msg-i-eq45 w ↦ (
        omega arith,
        omega (
          arith,
          l.invariant.1,
          place_next m l.i c.loop-i-test.true l.left w.if-msg-i-eq45.false,
          ap (λ (n : ℕ). up_to_hyphen n (drop (l.i + 1) m)) w.left-is,
        ),
      )
    ]
