-- `force::is_bare` meets its contract. Assumes nothing.
use borrow.Author.Tests.{eq-eqb, ne_eqb}
use Rattle.force.proofs.is_bare.Goals as goal

pub returns-then-k-ne-PLAN_16 : goal.returns-then-k-ne-PLAN_16
returns-then-k-ne-PLAN_16 c =
    rw (ne_eqb c.args.k 7 c.if-k-ne-PLAN_16.true)

pub returns : goal.returns
returns c =
    rw (eq-eqb c.args.k 7 c.if-k-ne-PLAN_16.false) c.fits_field16.ensures
