-- `opening::not_read` meets its contract. Assumes nothing.
use borrow.Author.Tests.{le-leb, lt-leb}
use native.Mathlib.Omega.{arith}
use Rattle.opening.proofs.not_read.Goals as goal

pub returns-then-refusal-le9 : goal.returns-then-refusal-le9
returns-then-refusal-le9 c =
    rw (le-leb c.args.refusal.number 9 (omega (arith, c.if-refusal-le9.true)))

pub returns : goal.returns
returns c =
    rw (c.of.ensures, lt-leb c.args.refusal.number 9 (omega (arith, c.if-refusal-le9.false)))
