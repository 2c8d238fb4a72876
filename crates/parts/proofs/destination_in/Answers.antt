-- `parts::destination_in` meets its contract. Assumes nothing.
use Rattle.parts.proofs.Steps.{no_alternate, one_alternate, two_alternates}
use Rattle.parts.proofs.destination_in.Goals as goal

pub returns-then-sixteen-lt13 : goal.returns-then-sixteen-lt13
returns-then-sixteen-lt13 c =
    no_alternate c.args.from c.args.sixteen.now c.requires.1 _ c.elapsed_of-elapsed.ensures c.if-sixteen-lt13.true

pub returns-then-sixteen-lt18 : goal.returns-then-sixteen-lt18
returns-then-sixteen-lt18 c =
    one_alternate c.args.from c.args.sixteen.now c.requires.1 _ c.elapsed_of-elapsed.ensures c.if-sixteen-lt13.false c.if-sixteen-lt18.true

pub returns : goal.returns
returns c =
    two_alternates c.args.from c.args.sixteen.now c.requires.1 _ c.elapsed_of-elapsed.ensures c.if-sixteen-lt18.false
