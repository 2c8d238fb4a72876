-- `message::place_in_plan` meets its contract. Assumes nothing.
use borrow.Author.Tests.{eq-eqb, ne_eqb}
use Rattle.message.proofs.place_in_plan.Goals as goal

pub returns-then-field-eq9 : goal.returns-then-field-eq9
returns-then-field-eq9 c =
    rw (eq-eqb _ 9 c.if-field-eq9.true)

pub returns-then-field-eq13 : goal.returns-then-field-eq13
returns-then-field-eq13 c =
    rw (ne_eqb _ 9 c.if-field-eq9.false, eq-eqb _ 13 c.if-field-eq13.true)

pub returns-else-field-eq13 : goal.returns-else-field-eq13
returns-else-field-eq13 c =
    rw (ne_eqb _ 9 c.if-field-eq9.false, ne_eqb _ 13 c.if-field-eq13.false)
