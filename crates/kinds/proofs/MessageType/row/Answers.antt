-- `kinds::MessageType::row` meets its contract. Assumes nothing.
use Rattle.std.proofs.Common.{rules, ℕ, ◌≡◌}
use mathlib.Core.Path.{refl}
use mathlib.Core.Logic.{◌⊎◌, inl, inr}
use lib.ListN.{get_or}
use Rattle.kinds.specs.declared.MessageType.{MessageType}
use Rattle.kinds.specs.declared.Form.TheVariants.{Field22}
use Rattle.kinds.specs.Kinds.{forms_of, form_at, plan_forms, brief_forms, request_forms, supplement_forms}
use Rattle.kinds.specs.declared.MessageType.TheVariants.{Fpl, Chg, Cnl, Dla, Dep, Rqp, Rqs, Spl}
use Rattle.kinds.proofs.Fields.{change_at, row_filled}
use Rattle.kinds.proofs.MessageType.row.Goals as goal

pub returns-in-Fpl : goal.returns-in-Fpl
unfolding form_at forms_of plan_forms
returns-in-Fpl c =
    rw c.in-Fpl.is (row_filled Fpl c.args.count plan_forms _ (search rules) (λ j. refl) c.filled.ensures)

brief : (t : MessageType) (n : ℕ) → (t ≡ Chg) ⊎ ((t ≡ Cnl) ⊎ ((t ≡ Dla) ⊎ ((t ≡ Dep) ⊎ (t ≡ Rqs)))) → (j : ℕ) → form_at t n j ≡ get_or brief_forms j Field22
unfolding form_at forms_of brief_forms
brief t n (inl e) j = rw e (change_at n j)
brief t n (inr (inl e)) j = rw e refl
brief t n (inr (inr (inl e))) j = rw e refl
brief t n (inr (inr (inr (inl e)))) j = rw e refl
brief t n (inr (inr (inr (inr e)))) j = rw e refl

pub returns-in-Chg : goal.returns-in-Chg
unfolding brief_forms
returns-in-Chg c =
    row_filled c.args.self c.args.count brief_forms _ (search rules) (brief c.args.self c.args.count c.in-Chg.is) c.filled-in-Chg.ensures

pub returns-in-Arr : goal.returns-in-Arr
returns-in-Arr c =
    rw c.in-Arr.is c.arrival_row.ensures

pub returns-in-Rqp : goal.returns-in-Rqp
unfolding form_at forms_of request_forms
returns-in-Rqp c =
    rw c.in-Rqp.is (row_filled Rqp c.args.count request_forms _ (search rules) (λ j. refl) c.filled-in-Rqp.ensures)

pub returns-in-Spl : goal.returns-in-Spl
unfolding form_at forms_of supplement_forms
returns-in-Spl c =
    rw c.in-Spl.is (row_filled Spl c.args.count supplement_forms _ (search rules) (λ j. refl) c.filled-in-Spl.ensures)
