-- `causes::cause_of` meets its contract. Assumes nothing.
use Prim.Native.Nat.{ℕ, ◌-◌}
use mathlib.Core.Path.{◌≡◌, refl, sym, ap, ◌∙◌}
use mathlib.Core.List.{List}
use native.Mathlib.Omega.{arith}
use lib.ListN.{length, take, drop, length-take, length-drop}
use Rattle.text.specs.Words.{split}
use Rattle.opening.specs.Opening.{text_said, opening_of}
use Rattle.opening.proofs.Steps.{inner_slice}
use Rattle.opening.proofs.Plan.{Opened, opened, last_long, text_there}
use Rattle.causes.proofs.Steps.{not_opened, was_opened}
use Rattle.causes.proofs.cause_of.Goals.{In-Ok}
use Rattle.causes.proofs.cause_of.Goals as goal
use Rattle.std.specs.Prelude.{Ok}

is_open : (c : In-Ok) → opening_of c.args.strip.now c.args.held c.args.msg.now ≡ Ok (c.in-Ok.t, c.in-Ok.n)
is_open c =
    sym c.open_strip.ensures.0 ∙ c.in-Ok.is

facts : (c : In-Ok) → Opened c.args.strip.now c.args.held c.args.msg.now c.in-Ok.t c.in-Ok.n
facts c =
    opened _ _ _ _ _ (is_open c)

scratch-long : (c : In-Ok) → length c.open_strip.new.scratch ≡ 1800
scratch-long c =
    last_long c.args.strip.now c.args.held c.args.msg.now _ _ (is_open c) _ _ c.open_strip.ensures.1 refl

said-there : (c : In-Ok) → take (c.in-Ok.n - 1 - 1) (drop 1 c.open_strip.new.scratch) ≡ text_said c.in-Ok.t c.args.msg.now
said-there c =
    text_there c.args.strip.now c.args.held c.args.msg.now _ _ (is_open c) _ _ c.open_strip.ensures.1

pub overflow_sub-e : goal.overflow_sub-e
overflow_sub-e c =
    omega (arith, (facts (goal.at.overflow_sub-e c).In-Ok).two)

pub overflow_sub-last : goal.overflow_sub-last
overflow_sub-last c =
    omega (arith, (facts (goal.at.overflow_sub-last c).In-Ok).plan.two)

pub slice_bounds-offered_cause-count : goal.slice_bounds-offered_cause-count
slice_bounds-offered_cause-count c =
    omega (arith, (facts (goal.at.slice_bounds-offered_cause-count c).In-Ok).plan.two)

pub slice_bounds-offered_cause-start : goal.slice_bounds-offered_cause-start
slice_bounds-offered_cause-start c =
    omega (arith, (facts (goal.at.slice_bounds-offered_cause-start c).In-Ok).plan.two)

pub slice_bounds-offered_cause-end : goal.slice_bounds-offered_cause-end
slice_bounds-offered_cause-end c =
    omega (arith, (facts (goal.at.slice_bounds-offered_cause-end c).In-Ok).plan.two)

pub slice_bounds-offered_cause-count-in-Ok : goal.slice_bounds-offered_cause-count-in-Ok
slice_bounds-offered_cause-count-in-Ok c =
    omega (arith, (facts (goal.at.slice_bounds-offered_cause-count-in-Ok c).In-Ok).two)

pub slice_bounds-offered_cause-start-in-Ok : goal.slice_bounds-offered_cause-start-in-Ok
slice_bounds-offered_cause-start-in-Ok c =
    omega (arith, (facts (goal.at.slice_bounds-offered_cause-start-in-Ok c).In-Ok).two)

pub slice_bounds-offered_cause-end-in-Ok : goal.slice_bounds-offered_cause-end-in-Ok
slice_bounds-offered_cause-end-in-Ok c =
    omega (
      arith,
      (facts (goal.at.slice_bounds-offered_cause-end-in-Ok c).In-Ok).short,
      scratch-long
          (goal.at.slice_bounds-offered_cause-end-in-Ok c).In-Ok,
    )

pub offered_cause-requires : goal.offered_cause-requires
offered_cause-requires c =
    let s = c.args.strip.now in
    let p = (facts (goal.at.offered_cause-requires c).In-Ok).plan in (
      ap (λ (w : List ℕ). length (split 45 w)) (inner_slice s) ∙ p.nine,
      omega (arith, length-take (length s - 1 - 1) (drop 1 s), length-drop 1 s, p.two, p.short),
      omega (
        arith,
        length-take (c.in-Ok.n - 1 - 1) (drop 1 c.open_strip.new.scratch),
        (facts (goal.at.offered_cause-requires c).In-Ok).two,
        (facts (goal.at.offered_cause-requires c).In-Ok).short,
      ),
    )

pub returns-in-Err : goal.returns-in-Err
returns-in-Err c =
    let a = c.args in
    not_opened a.strip.now a.held a.msg.now _ _ _ (sym c.open_strip.ensures.0 ∙ c.in-Err.is)

pub returns-in-Ok : goal.returns-in-Ok
returns-in-Ok c =
    let a = c.args in
    was_opened a.strip.now a.held a.msg.now _ _ (is_open (goal.at.returns-in-Ok c).In-Ok) _ c.role.ensures _ _ (inner_slice a.strip.now)
    (said-there (goal.at.returns-in-Ok c).In-Ok)
    _ c.offered_cause.ensures
