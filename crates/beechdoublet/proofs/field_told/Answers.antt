-- `beechdoublet::field_told` meets its contract. Assumes nothing.
use borrow.Author.Tests.{le-ltb, lt-ltb, ne_eqb, eq-eqb}
use Rattle.beechdoublet.proofs.field_told.Goals as goal

pub returns-then-asked-le255 : goal.returns-then-asked-le255
returns-then-asked-le255 c =
    rw (le-ltb 255 _ c.if-asked-le255.true)

pub returns-then-number-ne8 : goal.returns-then-number-ne8
returns-then-number-ne8 c =
    rw (lt-ltb 255 _ c.if-asked-le255.false, ne_eqb _ 8 c.if-number-ne8.true)

pub returns-then-field-ne0 : goal.returns-then-field-ne0
returns-then-field-ne0 c =
    rw (lt-ltb 255 _ c.if-asked-le255.false, eq-eqb _ 8 c.if-number-ne8.false, ne_eqb _ 0 c.if-field-ne0.true)

pub returns : goal.returns
returns c =
    rw (lt-ltb 255 _ c.if-asked-le255.false, eq-eqb _ 8 c.if-number-ne8.false, eq-eqb _ 0 c.if-field-ne0.false)
