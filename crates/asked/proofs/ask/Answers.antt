-- `asked::ask` meets its contract. Assumes nothing.
use Prim.Native.Nat.{◌≤◌}
use mathlib.Core.Path.{◌≡◌, refl, sym, ◌∙◌}
use native.Mathlib.Omega.{arith}
use lib.ListN.{length, take}
use lib.Seq.{length-take-le}
use Rattle.opening.specs.Opening.{opening_of}
use Rattle.opening.proofs.Plan.{Opened, opened, last_long, whole_there}
use Rattle.std.proofs.lemmas.Result.{err_from_is_err_and}
use Rattle.asked.proofs.Steps.{not_opened, was_opened}
use Rattle.asked.proofs.ask.Goals.{In_ok-t}
use Rattle.asked.proofs.ask.Goals as goal
use Rattle.std.specs.Prelude.{Ok}

is_open : (c : In_ok-t) → opening_of c.args.strip.now c.args.held c.args.chg.now ≡ Ok (c.in_ok-t.t, c.in_ok-t.n)
is_open c =
    sym c.open_strip.ensures.0 ∙ c.in_ok-t.was

facts : (c : In_ok-t) → Opened c.args.strip.now c.args.held c.args.chg.now c.in_ok-t.t c.in_ok-t.n
facts c =
    opened _ _ _ _ _ (is_open c)

inside : (c : In_ok-t) → c.in_ok-t.n ≤ length c.open_strip.new.scratch
inside c =
    let a = c.args in
    omega (arith, (facts c).short, last_long a.strip.now a.held a.chg.now _ _ (is_open c) _ _ c.open_strip.ensures.1 refl)

spelled-long : (c : In_ok-t) → length (take c.in_ok-t.n c.open_strip.new.scratch) ≡ c.in_ok-t.n
spelled-long c =
    length-take-le c.in_ok-t.n c.open_strip.new.scratch (inside c)

pub slice_bounds-scratch-end : goal.slice_bounds-scratch-end
slice_bounds-scratch-end c =
    inside (goal.at.slice_bounds-scratch-end c).In_ok-t

pub slice_bounds-ask_read-end : goal.slice_bounds-ask_read-end
slice_bounds-ask_read-end c =
    sym (spelled-long (goal.at.slice_bounds-ask_read-end c).In_ok-t)

pub ask_read-requires : goal.ask_read-requires
ask_read-requires c =
    let f = facts (goal.at.ask_read-requires c).In_ok-t in (
      omega (arith, f.two, spelled-long (goal.at.ask_read-requires c).In_ok-t),
      omega (arith, f.short, spelled-long (goal.at.ask_read-requires c).In_ok-t),
      f.plan.two,
      f.plan.short,
    )

pub returns-in_err-t : goal.returns-in_err-t
returns-in_err-t c =
    let a = c.args in
    let p = err_from_is_err_and c.from_residual.result c.from_residual.ensures.1 in
    let told = not_opened a.strip.now a.held a.chg.now a.number _ _ _ (sym c.open_strip.ensures.0 ∙ c.in_err-t.was) in
    record { value = rw (p.1, p.2) told.0; shows = rw p.1 tt }

pub returns : goal.returns
returns c =
    let a = c.args in let told = was_opened a.strip.now a.held a.chg.now a.number _ _ (is_open (goal.at.returns c).In_ok-t)
    _ (whole_there a.strip.now a.held a.chg.now _ _ (is_open (goal.at.returns c).In_ok-t) _ _ c.open_strip.ensures.1) _
    (c.ask_read.ensures.value, c.ask_read.ensures.shows) in record { value = told.0; shows = told.1 }
