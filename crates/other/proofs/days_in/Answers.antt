-- `other::days_in` meets its contract. Assumes nothing.
use Rattle.other.specs.Rules.{days_in}
use lib.ListN.{get_or-eq_default}
use Prim.Native.Nat.{ℕ}
use borrow.Author.Tests.{eq-eqb, ne_eqb}
use Rattle.other.proofs.days_in.Goals as goal

pub returns-then-y-eq0 : goal.returns-then-y-eq0
unfolding days_in
returns-then-y-eq0 c =
    rw (eq-eqb _ _ c.if-m-eq2.true, eq-eqb _ _ c.if-y-eq0.true)

pub returns-else-y-eq0 : goal.returns-else-y-eq0
unfolding days_in
returns-else-y-eq0 c =
    rw (eq-eqb _ _ c.if-m-eq2.true, ne_eqb _ _ c.if-y-eq0.false)

pub returns-then-m-lt13 : goal.returns-then-m-lt13
unfolding days_in
returns-then-m-lt13 c =
    rw (ne_eqb _ _ c.if-m-eq2.false)

pub returns-else-m-lt13 : goal.returns-else-m-lt13
unfolding days_in
returns-else-m-lt13 c =
    rw (ne_eqb _ _ c.if-m-eq2.false, get_or-eq_default {A = ℕ} _ 0 c.if-m-lt13.false)
