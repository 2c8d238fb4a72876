-- `head_places::to_digits` meets its contract. Assumes nothing.
use Rattle.std.proofs.Common.{rules, arith}
use Rattle.head_places.proofs.Reached.{letters_stuck, oblique_none, oblique_off, oblique_on, oblique_stuck}
use Rattle.head_places.proofs.to_digits.Goals as goal

pub returns-in_err-n : goal.returns-in_err-n
returns-in_err-n c =
    let r = letters_stuck c.args.w.now c.in_err-n.field-0.0 c.in_err-n.ensures in search (rules, r)

pub returns-then-n-w : goal.returns-then-n-w
returns-then-n-w c =
    oblique_none c.args.w.now c.in_ok-n.n c.in_ok-n.ensures (omega arith)

pub returns-then-w-n-ne47 : goal.returns-then-w-n-ne47
returns-then-w-n-ne47 c =
    let r = c.in_ok-n.ensures in
    oblique_off c.args.w.now c.in_ok-n.n r (omega (arith, r.0)) c.if-w-n-ne47.true

pub returns-in-Ok : goal.returns-in-Ok
returns-in-Ok c =
    let r = c.in_ok-n.ensures in
    oblique_on c.args.w.now c.in_ok-n.n r (omega (arith, r.0)) c.if-w-n-ne47.false c.in-Ok.m c.in-Ok.ensures

pub returns-in-Err : goal.returns-in-Err
returns-in-Err c =
    let r = c.in_ok-n.ensures in
    oblique_stuck c.args.w.now c.in_ok-n.n r (omega (arith, r.0)) c.if-w-n-ne47.false c.in-Err.m c.in-Err.ensures
