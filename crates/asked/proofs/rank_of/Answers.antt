-- `asked::rank_of` meets its contract. Assumes nothing.
use mathlib.Core.Path.{sym, ap}
use borrow.Author.Tests.{ne_eqb}
use Rattle.asked.specs.Asking.{rank_of}
use Rattle.asked.proofs.rank_of.Goals as goal

pub returns-in-7 : goal.returns-in-7
returns-in-7 c =
    sym (ap rank_of c.in-7.is)

pub returns-in-8 : goal.returns-in-8
returns-in-8 c =
    sym (ap rank_of c.in-8.is)

pub returns-in-9 : goal.returns-in-9
returns-in-9 c =
    sym (ap rank_of c.in-9.is)

pub returns-in-10 : goal.returns-in-10
returns-in-10 c =
    sym (ap rank_of c.in-10.is)

pub returns-in-13 : goal.returns-in-13
returns-in-13 c =
    sym (ap rank_of c.in-13.is)

pub returns-in-15 : goal.returns-in-15
returns-in-15 c =
    sym (ap rank_of c.in-15.is)

pub returns-in-16 : goal.returns-in-16
returns-in-16 c =
    sym (ap rank_of c.in-16.is)

pub returns-in-18 : goal.returns-in-18
returns-in-18 c =
    sym (ap rank_of c.in-18.is)

pub returns-in_default : goal.returns-in_default
returns-in_default c =
    let n = c.args.number in
    let r = c.in_default.in_default-own.rest in
    rw (
      ne_eqb n 7 r.0.0.0.0.0.0.0.1,
      ne_eqb n 8 r.0.0.0.0.0.0.1,
      ne_eqb n 9 r.0.0.0.0.0.1,
      ne_eqb n 10 r.0.0.0.0.1,
      ne_eqb n 13 r.0.0.0.1,
      ne_eqb n 15 r.0.0.1,
      ne_eqb n 16 r.0.1,
      ne_eqb n 18 r.1,
    )
