-- `strip::update` meets its contract. Assumes nothing.
use Prim.Native.Nat.{ℕ, ◌-◌}
use mathlib.Core.Path.{◌≡◌, refl, sym, ap, ◌∙◌}
use mathlib.Core.List.{List}
use native.Mathlib.Omega.{arith}
use lib.ListN.{length, take, drop, length-take, length-drop}
use Rattle.text.specs.Words.{split}
use Rattle.opening.specs.Opening.{text_said, opening_of}
use Rattle.opening.proofs.Steps.{inner_slice}
use Rattle.opening.proofs.Plan.{Opened, opened, last_long, text_there}
use Rattle.std.proofs.lemmas.Result.{err_from_is_err_and}
use Rattle.strip.proofs.Answers.{not_opened, was_opened}
use Rattle.strip.proofs.update.Goals.{In_ok-t}
use Rattle.strip.proofs.update.Goals as goal
use Rattle.std.specs.Prelude.{Ok}

is_open : (c : In_ok-t) → opening_of c.args.strip.now c.args.held c.args.msg.now ≡ Ok (c.in_ok-t.t, c.in_ok-t.n)
is_open c =
    sym c.open_strip.ensures.0 ∙ c.in_ok-t.was

facts : (c : In_ok-t) → Opened c.args.strip.now c.args.held c.args.msg.now c.in_ok-t.t c.in_ok-t.n
facts c =
    opened _ _ _ _ _ (is_open c)

scratch-long : (c : In_ok-t) → length c.open_strip.new.scratch ≡ 1800
scratch-long c =
    last_long c.args.strip.now c.args.held c.args.msg.now _ _ (is_open c) _ _ c.open_strip.ensures.1 refl

said-there : (c : In_ok-t) → take (c.in_ok-t.n - 1 - 1) (drop 1 c.open_strip.new.scratch) ≡ text_said c.in_ok-t.t c.args.msg.now
said-there c =
    text_there c.args.strip.now c.args.held c.args.msg.now _ _ (is_open c) _ _ c.open_strip.ensures.1

pub overflow_sub-e : goal.overflow_sub-e
overflow_sub-e c =
    omega (arith, (facts (goal.at.overflow_sub-e c).In_ok-t).two)

pub overflow_sub-last : goal.overflow_sub-last
overflow_sub-last c =
    omega (arith, (facts (goal.at.overflow_sub-last c).In_ok-t).plan.two)

pub slice_bounds-offer-count : goal.slice_bounds-offer-count
slice_bounds-offer-count c =
    omega (arith, (facts (goal.at.slice_bounds-offer-count c).In_ok-t).plan.two)

pub slice_bounds-offer-start : goal.slice_bounds-offer-start
slice_bounds-offer-start c =
    omega (arith, (facts (goal.at.slice_bounds-offer-start c).In_ok-t).plan.two)

pub slice_bounds-offer-end : goal.slice_bounds-offer-end
slice_bounds-offer-end c =
    omega (arith, (facts (goal.at.slice_bounds-offer-end c).In_ok-t).plan.two)

pub slice_bounds-offer-count-2 : goal.slice_bounds-offer-count-2
slice_bounds-offer-count-2 c =
    omega (arith, (facts (goal.at.slice_bounds-offer-count-2 c).In_ok-t).two)

pub slice_bounds-offer-start-2 : goal.slice_bounds-offer-start-2
slice_bounds-offer-start-2 c =
    omega (arith, (facts (goal.at.slice_bounds-offer-start-2 c).In_ok-t).two)

pub slice_bounds-offer-end-2 : goal.slice_bounds-offer-end-2
slice_bounds-offer-end-2 c =
    omega (
      arith,
      (facts (goal.at.slice_bounds-offer-end-2 c).In_ok-t).short,
      scratch-long
          (goal.at.slice_bounds-offer-end-2 c).In_ok-t,
    )

pub offer-requires : goal.offer-requires
offer-requires c =
    let s = c.args.strip.now in
    let p = (facts (goal.at.offer-requires c).In_ok-t).plan in (
      ap (λ (w : List ℕ). length (split 45 w)) (inner_slice s) ∙ p.nine,
      omega (arith, length-take (length s - 1 - 1) (drop 1 s), length-drop 1 s, p.two, p.short),
      omega (
        arith,
        length-take (c.in_ok-t.n - 1 - 1) (drop 1 c.open_strip.new.scratch),
        (facts (goal.at.offer-requires c).In_ok-t).two,
        (facts (goal.at.offer-requires c).In_ok-t).short,
      ),
    )

pub returns-in_err-t : goal.returns-in_err-t
returns-in_err-t c =
    let a = c.args in
    let p = err_from_is_err_and c.from_residual.result c.from_residual.ensures.1 in
    rw (p.1, p.2) (not_opened a.strip.now a.held a.msg.now a.out.now _ _ _ (sym c.open_strip.ensures.0 ∙ c.in_err-t.was))

pub returns : goal.returns
returns c =
    let a = c.args in
    was_opened a.strip.now a.held a.msg.now a.out.now _ _ (is_open (goal.at.returns c).In_ok-t) _ c.role.ensures _ _ (inner_slice a.strip.now)
    (said-there (goal.at.returns c).In_ok-t)
    _ _ c.offer.ensures
