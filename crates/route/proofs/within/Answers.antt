-- `route::within` meets its contract. Assumes nothing.
use borrow.Author.Tests.{le-leb, lt-leb, eq-eqb, ne_eqb}
use Rattle.route.specs.Points.{within}
use Rattle.route.proofs.within.Goals as goal

pub returns-then-most-degrees : goal.returns-then-most-degrees
unfolding within
returns-then-most-degrees c =
    rw (lt-leb _ _ c.if-most-degrees.true)

pub returns-then-minutes-gt59 : goal.returns-then-minutes-gt59
unfolding within
returns-then-minutes-gt59 c =
    rw (le-leb _ _ c.if-most-degrees.false, lt-leb _ _ c.if-minutes-gt59.true)

pub returns-then-degrees-most : goal.returns-then-degrees-most
unfolding within
returns-then-degrees-most c =
    rw (le-leb _ _ c.if-most-degrees.false, le-leb _ _ c.if-minutes-gt59.false, eq-eqb _ _ c.if-degrees-most.true)

pub returns : goal.returns
unfolding within
returns c =
    rw (le-leb _ _ c.if-most-degrees.false, le-leb _ _ c.if-minutes-gt59.false, ne_eqb _ _ c.if-degrees-most.false)
