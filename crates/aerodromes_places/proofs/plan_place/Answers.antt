-- `aerodromes_places::plan_place` meets its contract. Assumes nothing.
use borrow.Author.Tests.{eq-eqb, ne_eqb, lt-leb, le-leb}
use Rattle.aerodromes_places.proofs.plan_place.Goals as goal

pub returns-then-n-eq0 : goal.returns-then-n-eq0
returns-then-n-eq0 c =
    rw (eq-eqb c.args.n 0 c.if-n-eq0.true) c.place_joined.ensures

pub returns-then-n-gt2 : goal.returns-then-n-gt2
returns-then-n-gt2 c =
    rw (ne_eqb c.args.n 0 c.if-n-eq0.false, lt-leb c.args.n 2 c.if-n-gt2.true)

pub returns : goal.returns
returns c =
    rw (
      ne_eqb c.args.n 0 c.if-n-eq0.false,
      le-leb c.args.n 2 c.if-n-gt2.false,
    ) c.place_field16.ensures
