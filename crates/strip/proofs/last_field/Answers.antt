-- `strip::last_field` meets its contract. Assumes nothing.
use Prim.Native.Nat.{◌<◌}
use lib.ListN.{length}
use Rattle.strip.proofs.Last.{last_here, last_next}
use borrow.Author.Rules.{rules}
use native.Mathlib.Omega.{arith}
use Rattle.strip.proofs.last_field.Goals as goal

pub returns-then-e-s : goal.returns-then-e-s
returns-then-e-s c =
    let f = c.find-e in
    let l = c.loop-at in
    last_here c.args.s.now l.at f.result f.ensures.value _ l.invariant.1 c.if-e-s.true

pub loop-at-preserved : goal.loop-at-preserved
loop-at-preserved c =
    let f = c.find-e in
    let l = c.loop-at in
    let inside : f.result < length c.args.s.now = omega (arith, c.if-e-s.false, f.ensures.lower_bound.1) in
    (search rules, last_next c.args.s.now l.at f.result f.ensures.value _ l.invariant.1 inside)
