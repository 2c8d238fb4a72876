-- `message::is_plan_counted` meets its contract. Assumes nothing.
use Prim.Native.Nat.{ℕ, ◌+◌, ◌-◌, ◌≤◌}
use mathlib.Core.Path.{◌≡◌, refl, sym, ap, ◌∙◌}
use mathlib.Core.Bool.{true}
use mathlib.Core.List.{[]}
use native.Mathlib.Omega.{arith}
use lib.ListN.{length, take, drop}
use Rattle.text.specs.Words.{same}
use Rattle.text.proofs.Tests.{same-eq, and_false}
use Rattle.space.specs.Reduced.{reduced}
use Rattle.outer.specs.Outer.{most}
use Rattle.kinds.specs.Kinds.{least_of, greatest_of}
use Rattle.message.specs.Reading.{count_of, is_plan, Counted, count_as, plans}
use Rattle.message.proofs.Steps.{too_few, too_many, enough, some_bytes, two_bytes, text_itself, counted}
use Rattle.message.proofs.Itself.{plan_fields_lem, itself_short, and_true, other_type}
use Rattle.message.proofs.is_plan_counted.Goals.{After-count_hyphens-count, Else-count-least, Else-greatest-count}
use Rattle.message.proofs.is_plan_counted.Goals as goal

planned : (c : After-count_hyphens-count) → is_plan c.args.t ≡ true
planned c =
    sym c.is_plan.ensures ∙ c.if-not-is_plan.false

is_same : (c : After-count_hyphens-count) → same (reduced c.args.msg.now) c.args.msg.now ≡ true
is_same c =
    sym c.is_reduced.ensures ∙ c.if-not-is_reduced.false

count_is : (c : After-count_hyphens-count) → ((c.count_hyphens-count.result + 1)) ≡ count_of c.args.msg.now
count_is c =
    ap (λ (k : ℕ). k + 1) c.count_hyphens-count.ensures

two : (c : After-count_hyphens-count) → 2 ≤ length c.args.msg.now
two c =
    two_bytes c.args.msg.now c.requires

at_least : (c : Else-count-least) → least_of c.args.t ≤ (c.count_hyphens-count.result + 1)
at_least c =
    omega (arith, c.least.ensures, c.if-count-least.false)

at_most : (c : Else-greatest-count) → (c.count_hyphens-count.result + 1) ≤ greatest_of c.args.t
at_most c =
    omega (arith, c.greatest.ensures, c.if-greatest-count.false)

text-counted : (c : Else-greatest-count) → Counted c.args.t c.args.msg.now (c.count_hyphens-count.result + 1)
    ((take (length c.args.msg.now - 1 - 1) (drop 1 c.args.msg.now)))
text-counted c =
    let count_is : ((c.count_hyphens-count.result + 1)) ≡ count_of c.args.msg.now = ap (λ (k : ℕ). k + 1) c.count_hyphens-count.ensures in
    let at_least : least_of c.args.t ≤ (c.count_hyphens-count.result + 1) = omega (arith, c.least.ensures, c.if-count-least.false) in
    let is_same : same (reduced c.args.msg.now) c.args.msg.now ≡ true = sym c.is_reduced.ensures ∙ c.if-not-is_reduced.false in
    counted c.args.msg.now [] _ c.requires refl c.args.t (c.count_hyphens-count.result + 1) count_is at_least (at_most c)
    ((take (length c.args.msg.now - 1 - 1) (drop 1 c.args.msg.now)))
    (text_itself c.args.msg.now (same-eq _ _ is_same))

pub returns-then-not-is_plan : goal.returns-then-not-is_plan
returns-then-not-is_plan c =
    let a = c.args in
    rw (other_type a.t a.msg.now most (sym c.is_plan.ensures ∙ c.if-not-is_plan.true))

pub returns-then-not-is_reduced : goal.returns-then-not-is_reduced
returns-then-not-is_reduced c =
    let a = c.args in
    sym (and_false (plans (count_as a.t a.msg.now most)) _ (sym c.is_reduced.ensures ∙ c.if-not-is_reduced.true))

pub overflow_add-count : goal.overflow_add-count
overflow_add-count c =
    omega (arith, c.count_hyphens-count.ensures, some_bytes c.args.msg.now c.requires)

pub returns-then-count-least : goal.returns-then-count-least
returns-then-count-least c =
    rw (too_few c.args.t c.args.msg.now most _ (count_is (goal.at.returns-then-count-least c).After-count_hyphens-count)
    (omega (arith, c.least.ensures, c.if-count-least.true)))

pub returns-then-greatest-count : goal.returns-then-greatest-count
returns-then-greatest-count c =
    rw (too_many c.args.t c.args.msg.now most _ (count_is (goal.at.returns-then-greatest-count c).After-count_hyphens-count)
    (at_least (goal.at.returns-then-greatest-count c).Else-count-least) (omega (arith, c.greatest.ensures, c.if-greatest-count.true)))

pub overflow_sub-last : goal.overflow_sub-last
overflow_sub-last c =
    omega (arith, two (goal.at.overflow_sub-last c).After-count_hyphens-count)

pub slice_bounds-is_plan_text-count : goal.slice_bounds-is_plan_text-count
slice_bounds-is_plan_text-count c =
    omega (arith, two (goal.at.slice_bounds-is_plan_text-count c).After-count_hyphens-count)

pub slice_bounds-is_plan_text-start : goal.slice_bounds-is_plan_text-start
slice_bounds-is_plan_text-start c =
    omega (arith, two (goal.at.slice_bounds-is_plan_text-start c).After-count_hyphens-count)

pub slice_bounds-is_plan_text-end : goal.slice_bounds-is_plan_text-end
slice_bounds-is_plan_text-end c =
    omega (arith, two (goal.at.slice_bounds-is_plan_text-end c).After-count_hyphens-count)

pub is_plan_text-requires : goal.is_plan_text-requires
is_plan_text-requires c =
    (planned (goal.at.is_plan_text-requires c).After-count_hyphens-count, (text-counted (goal.at.is_plan_text-requires c).Else-greatest-count).even)

pub returns : goal.returns
returns c =
    let t = c.args.t in
    rw (
      enough t c.args.msg.now most _ (count_is (goal.at.returns c).After-count_hyphens-count) (at_least (goal.at.returns c).Else-count-least)
          (at_most (goal.at.returns c).Else-greatest-count),
      and_true _ _ (is_same (goal.at.returns c).After-count_hyphens-count),
    )
    (c.is_plan_text.ensures ∙ sym (plan_fields_lem t c.args.msg.now _ _ (text-counted (goal.at.returns c).Else-greatest-count)
    (planned (goal.at.returns c).After-count_hyphens-count) (itself_short c.args.msg.now c.requires)))
