-- `route::behind_level` meets its contract. Assumes nothing.
use mathlib.Core.Path.{sym, ap, ◌∙◌}
use mathlib.Core.Logic.{⊎_elim, inl, inr}
use borrow.Author.Rules.{rules}
use native.Mathlib.Omega.{arith}
use Rattle.route.specs.Levels.{level_digits, letter_of}
use Rattle.route.proofs.Fronts.{unit_none, unit_short, first_none, first_some, no_level_letter}
use Rattle.route.proofs.behind_level.Goals as goal

pub returns-in_err-unit : goal.returns-in_err-unit
returns-in_err-unit c =
    let none = unit_short (level_digits (letter_of c.args.w.now)) c.args.w.now (omega (arith, first_none c.args.w.now (search rules))) in
    search (rules, none)

pub returns-in-70 : goal.returns-in-70
unfolding level_digits
returns-in-70 c =
    let letter = ap level_digits (first_some c.args.w.now _ (sym c.in_ok-unit.ensures.value)) in
    let n = letter ∙ ⊎_elim (λ e. ap level_digits e) (λ e. ap level_digits e) c.in-70.is in
    rw n c.behind_unit.ensures

pub returns-in-83 : goal.returns-in-83
unfolding level_digits
returns-in-83 c =
    let letter = ap level_digits (first_some c.args.w.now _ (sym c.in_ok-unit.ensures.value)) in
    let n = letter ∙ ⊎_elim (λ e. ap level_digits e) (λ e. ap level_digits e) c.in-83.is in
    rw n c.behind_unit-in-83.ensures

pub returns-in_default : goal.returns-in_default
returns-in_default c =
    let r = c.in_default.in_default-own.rest in
    let letter = ap level_digits (first_some c.args.w.now _ (sym c.in_ok-unit.ensures.value)) in
    let none = no_level_letter c.in_ok-unit.field-0.now (λ e. r.0.1 (inr e)) (λ e. r.0.1 (inl e)) (λ e. r.1 (inr e)) (λ e. r.1 (inl e)) in
    unit_none (level_digits (letter_of c.args.w.now)) c.args.w.now (letter ∙ none)
