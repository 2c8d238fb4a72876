-- `message::read_count` meets its contract. Assumes nothing.
use Prim.Native.Nat.{ℕ, ◌+◌, ◌≤◌, ◌<◌}
use mathlib.Core.Path.{◌≡◌, refl, ap}
use lib.ListN.{length}
use Rattle.kinds.specs.Kinds.{least_of, greatest_of}
use Rattle.message.specs.Reading.{count_of}
use Rattle.message.proofs.Steps.{too_few, too_many, enough, some_bytes}
use native.Mathlib.Omega.{arith}
use Rattle.message.proofs.read_count.Goals.{After-count_hyphens-count, Else-count-least, Else-greatest-count}
use Rattle.message.proofs.read_count.Goals as goal

count_is : (c : After-count_hyphens-count) → ((c.count_hyphens-count.result + 1)) ≡ count_of c.args.msg.now
count_is c =
    ap (λ (k : ℕ). k + 1) c.count_hyphens-count.ensures

at_least : (c : Else-count-least) → least_of c.args.t ≤ (c.count_hyphens-count.result + 1)
at_least c =
    omega (arith, c.least.ensures, c.if-count-least.false)

at_most : (c : Else-greatest-count) → (c.count_hyphens-count.result + 1) ≤ greatest_of c.args.t
at_most c =
    omega (arith, c.greatest-greatest.ensures, c.if-greatest-count.false)

pub overflow_add-count : goal.overflow_add-count
overflow_add-count c =
    omega (arith, c.count_hyphens-count.ensures, some_bytes c.args.msg.now c.requires)

pub overflow_sub-msg : goal.overflow_sub-msg
overflow_sub-msg c =
    omega (arith, some_bytes c.args.msg.now c.requires)

pub returns-then-count-least : goal.returns-then-count-least
returns-then-count-least c =
    rw (
      c.at.ensures,
      too_few c.args.t c.args.msg.now (length c.args.out.now) _ (count_is (goal.at.returns-then-count-least c).After-count_hyphens-count)
          (omega (arith, c.least.ensures, c.if-count-least.true)),
    ) (refl, refl)

pub returns-then-greatest-count : goal.returns-then-greatest-count
returns-then-greatest-count c =
    let h : greatest_of c.args.t < (c.count_hyphens-count.result + 1) = omega (arith, c.greatest-greatest.ensures, c.if-greatest-count.true) in
    rw (
      c.at-then-greatest-count.ensures,
      too_many c.args.t c.args.msg.now (length c.args.out.now) _ (count_is (goal.at.returns-then-greatest-count c).After-count_hyphens-count)
          (at_least (goal.at.returns-then-greatest-count c).Else-count-least) h,
      ← c.greatest-greatest.ensures,
      ← c.place_of_hyphen.ensures,
    ) (refl, refl)

pub read_reduced-requires : goal.read_reduced-requires
read_reduced-requires c = (
  c.requires,
  count_is (goal.at.read_reduced-requires c).After-count_hyphens-count,
  at_least (goal.at.read_reduced-requires c).Else-count-least,
  at_most
      (goal.at.read_reduced-requires c).Else-greatest-count,
)

pub returns : goal.returns
returns c =
    rw (enough c.args.t c.args.msg.now (length c.args.out.now) _ (count_is (goal.at.returns c).After-count_hyphens-count)
    (at_least (goal.at.returns c).Else-count-least) (at_most (goal.at.returns c).Else-greatest-count)) c.read_reduced.ensures
