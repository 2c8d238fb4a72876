-- `shape::is_time` meets its contract. Assumes nothing.
use mathlib.Core.Path.{◌≡◌, sym, ◌∙◌}
use mathlib.Core.Bool.{true}
use lib.ListN.{length}
use borrow.Author.Tests.{le-leb, lt-leb}
use Rattle.shape.specs.Shape.{fits, wide}
use Rattle.shape.specs.Time.{hours_minutes, time_fits}
use Rattle.shape.proofs.Times.{four_digits, not_four}
use native.Mathlib.Omega.{arith}
use Rattle.shape.proofs.is_time.Goals.{Else-not-all_of, Else-w-ne4}
use Rattle.shape.proofs.is_time.Goals as goal

long : (c : Else-w-ne4) → length c.args.w.now ≡ 4
long c =
    omega arith

shaped : (c : Else-not-all_of) → fits (wide hours_minutes) c.args.w.now ≡ true
shaped c =
    let long : length c.args.w.now ≡ 4 = omega arith in four_digits c.args.w.now long ∙ sym c.all_of.ensures ∙ c.if-not-all_of.false

pub returns-then-w-ne4 : goal.returns-then-w-ne4
returns-then-w-ne4 c =
    sym (not_four c.args.most c.args.w.now c.if-w-ne4.true)

pub returns-then-not-all_of : goal.returns-then-not-all_of
unfolding time_fits
returns-then-not-all_of c =
    rw (four_digits c.args.w.now (long (goal.at.returns-then-not-all_of c).Else-w-ne4), sym c.all_of.ensures ∙ c.if-not-all_of.true)

pub two-requires : goal.two-requires
two-requires c =
    omega (arith, long (goal.at.two-requires c).Else-w-ne4)

pub returns-then-most-two : goal.returns-then-most-two
unfolding time_fits
returns-then-most-two c =
    rw (shaped (goal.at.returns-then-most-two c).Else-not-all_of, ← c.two.ensures.0, lt-leb _ _ c.if-most-two.true)

pub two-requires-2 : goal.two-requires-2
two-requires-2 c =
    omega (arith, long (goal.at.two-requires-2 c).Else-w-ne4)

pub returns : goal.returns
unfolding time_fits
returns c =
    rw (shaped (goal.at.returns c).Else-not-all_of, ← c.two.ensures.0, le-leb _ _ c.if-most-two.false, ← c.two-2.ensures.0)
