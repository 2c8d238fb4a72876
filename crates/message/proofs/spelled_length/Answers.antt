-- `message::spelled_length` meets its contract. Assumes nothing.
use native.Mathlib.Nat.{zero-add}
use Prim.Native.Nat.{◌-◌, ◌<◌, ◌≤◌}
use lib.ListN.{length}
use Rattle.message.proofs.Walk.{even_next, length_last, length_next, part_short}
use borrow.Author.Rules.{rules}
use native.Mathlib.Omega.{arith}
use Rattle.message.proofs.spelled_length.Goals.{After-spelled_length}
use Rattle.message.proofs.spelled_length.Goals as goal

short : (c : After-spelled_length) → c.spelled_length.result ≤ c.find-e.result - c.loop-t.at
short c =
    let a = c.args in
    let l = c.loop-t in
    let f = c.find-e.ensures in
    part_short a.t a.count a.s.now l.at l.j _ f.value l.invariant.3 _ _ c.form_at.ensures c.spelled_length.ensures f.lower_bound.1

pub loop-t-init : goal.loop-t-init
loop-t-init c =
    let p = c.requires in (search rules, search rules, search rules, p.1, zero-add _)

pub overflow_add-n : goal.overflow_add-n
overflow_add-n c =
    omega (arith, short (goal.at.overflow_add-n c).After-spelled_length, c.requires.0)

pub overflow_add-n-in-loop-t : goal.overflow_add-n-in-loop-t
overflow_add-n-in-loop-t c =
    omega (arith, short (goal.at.overflow_add-n-in-loop-t c).After-spelled_length, c.requires.0)

pub overflow_add-result : goal.overflow_add-result
overflow_add-result c =
    omega (arith, short (goal.at.overflow_add-result c).After-spelled_length, c.requires.0)

pub returns-then-e-s : goal.returns-then-e-s
returns-then-e-s c =
    let a = c.args in
    let l = c.loop-t in
    let h : length a.s.now ≤ c.find-e.result = omega arith in
    let last = length_last a.t a.count a.s.now l.at l.j _ c.find-e.ensures.value l.invariant.3 _ _ c.form_at.ensures
    c.spelled_length.ensures h in
    omega (arith, l.invariant.4, last)

pub loop-t-preserved : goal.loop-t-preserved
loop-t-preserved c =
    let a = c.args in
    let l = c.loop-t in
    let f = c.find-e in
    let h : f.result < length a.s.now = omega arith in
    let next = length_next a.t a.count a.s.now l.at l.j f.result f.ensures.value l.invariant.3 _ _ c.form_at.ensures
    c.spelled_length.ensures h in (
      search rules,
      search rules,
      omega (arith, short (goal.at.loop-t-preserved c).After-spelled_length, f.ensures.lower_bound.0),
      even_next a.t a.count a.s.now l.at l.j f.result f.ensures.value l.invariant.3 h,
      omega (arith, l.invariant.4, next),
    )
