-- Tests of every type that has a role, and of forms. Assumes nothing.
use Prim.Native.Nat.{ℕ, ◌≤◌}
use mathlib.Core.Path.{◌≡◌, refl, sym, ap, ◌∙◌}
use mathlib.Core.Bool.{Bool, true, ◌||◌, not}
use mathlib.Core.List.{List, [], ◌∷◌}
use borrow.Author.Tests.{eqb-true, eq-eqb}
use lib.Dec.{eqb}
use lib.ListN.{get_or}
use Rattle.text.specs.Words.{all}
use Rattle.kinds.specs.Kinds.{least_of, greatest_of, role_of, types_read}
use Rattle.kinds.specs.declared.MessageType.{MessageType}
use Rattle.kinds.specs.declared.Role.{Role}
use Rattle.kinds.specs.declared.Role.TheVariants.{Files, Changes, Delays, Cancels, Departs, Arrives, Neither}
use Rattle.kinds.specs.declared.Form.{Form}
use Rattle.kinds.specs.declared.Form.TheVariants.{Field3, Field7, Field8, Field9, Field10, Field13, Field13Open, Field15}
use Rattle.kinds.specs.declared.Form.TheVariants.{Field16, Field16Plan, Field17, Field18, Field19, Field22}
use Rattle.kinds.proofs.Fields.{all_counts, each_count}

-- A TEST OF EVERY TYPE OF A ROLE, and of every count that the type allows, computed, holds for a message of that role

abbrev pub role_code : Role → ℕ
role_code Files = 0
role_code Changes = 1
role_code Delays = 2
role_code Cancels = 3
role_code Departs = 4
role_code Arrives = 5
role_code Neither = 6

abbrev pub of_role : Role → (MessageType → ℕ → Bool) → MessageType → ℕ → Bool
of_role role P t n = not (eqb (role_code (role_of t)) (role_code role)) || P t n

pub each_of_role : (role : Role) (P : MessageType → ℕ → Bool) → all (all_counts (of_role role P)) types_read ≡ true
    → (t : MessageType) (n : ℕ) → role_of t ≡ role → least_of t ≤ n → n ≤ greatest_of t → P t n ≡ true
each_of_role role P h t n e l g =
    let same : eqb (role_code (role_of t)) (role_code role) ≡ true = eq-eqb (role_code (role_of t)) (role_code role) (ap role_code e) in
    rw same at (each_count (of_role role P) h t n l g)

-- WHICH FORM: two forms with one code are one

abbrev pub form_code : Form → ℕ
form_code Field3 = 0
form_code Field7 = 1
form_code Field8 = 2
form_code Field9 = 3
form_code Field10 = 4
form_code Field13 = 5
form_code Field13Open = 6
form_code Field15 = 7
form_code Field16 = 8
form_code Field16Plan = 9
form_code Field17 = 10
form_code Field18 = 11
form_code Field19 = 12
form_code Field22 = 13

abbrev coded : List Form
coded =
    Field3 ∷ Field7 ∷ Field8 ∷ Field9 ∷ Field10 ∷ Field13 ∷ Field13Open ∷ Field15 ∷ Field16 ∷ Field16Plan ∷ Field17 ∷ Field18 ∷ Field19 ∷ Field22 ∷ []

form_back : (f : Form) → get_or coded (form_code f) Field3 ≡ f
form_back Field3 = refl
form_back Field7 = refl
form_back Field8 = refl
form_back Field9 = refl
form_back Field10 = refl
form_back Field13 = refl
form_back Field13Open = refl
form_back Field15 = refl
form_back Field16 = refl
form_back Field16Plan = refl
form_back Field17 = refl
form_back Field18 = refl
form_back Field19 = refl
form_back Field22 = refl

pub form_one : (f g : Form) → eqb (form_code f) (form_code g) ≡ true → f ≡ g
form_one f g e = sym (form_back f) ∙ ap (λ (k : ℕ). get_or coded k Field3) (eqb-true (form_code f) (form_code g) e) ∙ form_back g
