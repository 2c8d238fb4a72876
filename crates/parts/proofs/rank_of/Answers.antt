-- `parts::rank_of` meets its contract. Assumes nothing.
use native.Mathlib.Omega.{arith}
use Rattle.parts.proofs.Steps.{rank_here, rank_next, rank_end}
use Rattle.parts.proofs.rank_of.Goals as goal

pub returns-then-number : goal.returns-then-number
returns-then-number c =
    let a = c.args in
    let p = c.requires in
    omega (
      arith,
      rank_here a.t a.count p.0 p.1 a.number c.loop-j.j c.loop-j-test.true
          _ c.form_at.ensures _ c.number.ensures c.if-number.true,
      c.loop-j.invariant,
    )

pub loop-j-preserved : goal.loop-j-preserved
loop-j-preserved c =
    let a = c.args in
    let p = c.requires in
    omega (
      arith,
      rank_next a.t a.count p.0 p.1 a.number c.loop-j.j c.loop-j-test.true
          _ c.form_at.ensures _ c.number.ensures c.if-number.false,
      c.loop-j.invariant,
    )

pub returns : goal.returns
returns c =
    let a = c.args in
    let p = c.requires in
    omega (arith, rank_end a.t a.count p.0 p.1 a.number c.loop-j.j c.loop-j-test.false, c.loop-j.invariant, c.loop-j.auto.j-end, c.loop-j-test.false)
