-- `route::behind_speed` meets its contract. Assumes nothing.
use mathlib.Core.Path.{sym, ap, ◌∙◌}
use mathlib.Core.Logic.{⊎_elim, inl, inr}
use borrow.Author.Rules.{rules}
use native.Mathlib.Omega.{arith}
use Rattle.route.specs.Levels.{speed_digits, letter_of}
use Rattle.route.proofs.Fronts.{unit_none, unit_short, first_none, first_some, no_speed_letter}
use Rattle.route.proofs.behind_speed.Goals as goal

pub returns-in_err-unit : goal.returns-in_err-unit
returns-in_err-unit c =
    let none = unit_short (speed_digits (letter_of c.args.w.now)) c.args.w.now (omega (arith, first_none c.args.w.now (search rules))) in
    search (rules, none)

pub returns-in-75 : goal.returns-in-75
unfolding speed_digits
returns-in-75 c =
    let letter = ap speed_digits (first_some c.args.w.now _ (sym c.in_ok-unit.ensures.value)) in
    let n = letter ∙ ⊎_elim (λ e. ap speed_digits e) (λ e. ap speed_digits e) c.in-75.is in
    rw n c.behind_unit.ensures

pub returns-in-77 : goal.returns-in-77
unfolding speed_digits
returns-in-77 c =
    let letter = ap speed_digits (first_some c.args.w.now _ (sym c.in_ok-unit.ensures.value)) in
    let n = letter ∙ ap speed_digits c.in-77.is in
    rw n c.behind_unit-in-77.ensures

pub returns-in_default : goal.returns-in_default
returns-in_default c =
    let r = c.in_default.in_default-own.rest in
    let letter = ap speed_digits (first_some c.args.w.now _ (sym c.in_ok-unit.ensures.value)) in
    let n = letter ∙ no_speed_letter c.in_ok-unit.field-0.now (λ e. r.0.1 (inl e)) (λ e. r.0.1 (inr e)) r.1 in
    unit_none (speed_digits (letter_of c.args.w.now)) c.args.w.now n
