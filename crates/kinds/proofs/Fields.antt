-- The fields of the message types: the entries of a CHG, as many forms as there are fields, and tests of every type and count. Assumes nothing.
use Prim.Native.Nat.{ℕ, zero, suc, ◌+◌, ◌-◌, ◌≤◌, ◌<◌}
use mathlib.Core.Path.{◌≡◌, refl, sym, ap, ◌∙◌}
use mathlib.Core.Bool.{Bool, true, false}
use mathlib.Core.List.{List, [], ◌∷◌, ◌++◌}
use native.Mathlib.Omega.{arith}
use borrow.Author.Tests.{eqb-true, eqb-false, leb-true}
use lib.Dec.{eqb, leb}
use lib.ListN.{length, drop, get_or, length-append, get_or-eq_default}
use lib.Seq.{ext_get_or}
use Rattle.text.specs.Words.{all}
use Rattle.text.proofs.Tests.{both}
use Rattle.kinds.specs.Kinds.{least_of, greatest_of, entries, forms_of, form_at, most_fields, RowFor, types_read}
use Rattle.kinds.specs.Kinds.{plan_forms, brief_forms, request_forms, arrival_forms, diverted_forms, supplement_forms}
use Rattle.kinds.specs.declared.MessageType.{MessageType}
use Rattle.kinds.specs.declared.MessageType.TheVariants.{Chg}
use Rattle.kinds.specs.declared.Form.{Form}
use Rattle.kinds.specs.declared.Form.TheVariants.{Field3, Field22}
use Rattle.kinds.proofs.Names.{each}

-- ENTRIES

entries_at : (k j : ℕ) → get_or (entries k) j Field22 ≡ Field22
entries_at zero j = refl
entries_at (suc k) zero = refl
entries_at (suc k) (suc j) = entries_at k j

entries_behind : (fs : List Form) (k j : ℕ) → get_or (fs ++ entries k) j Field22 ≡ get_or fs j Field22
entries_behind [] k j = entries_at k j
entries_behind (f ∷ fs) k zero = refl
entries_behind (f ∷ fs) k (suc j) = entries_behind fs k j

-- behind its first five fields a CHG has entries only
pub change_at : (n j : ℕ) → form_at Chg n j ≡ get_or brief_forms j Field22
unfolding form_at forms_of
change_at n j = entries_behind brief_forms (n - 5) j

-- as the code has a row: entries up to its end
row_at : (fs : List Form) (k j : ℕ) → j < length (fs ++ entries k) → get_or (fs ++ entries k) j Field3 ≡ get_or fs j Field22
row_at [] zero j h = absurd (omega arith)
row_at [] (suc k) zero h = refl
row_at [] (suc k) (suc j) h = row_at [] k j (omega arith)
row_at (f ∷ fs) k zero h = refl
row_at (f ∷ fs) k (suc j) h = row_at fs k j (omega arith)

drop_entries : (n k : ℕ) → n ≤ k → drop n (entries k) ≡ entries (k - n)
drop_entries zero k h = ap entries (omega arith)
drop_entries (suc n) zero h = absurd (omega arith)
drop_entries (suc n) (suc k) h = let less : k - n ≡ suc k - suc n = omega arith in drop_entries n k (omega arith) ∙ ap entries less

entries_long : (k : ℕ) → length (entries k) ≡ k
entries_long zero = refl
entries_long (suc k) = ap suc (entries_long k)

pub filled_at : (fs gs : List Form) (n j : ℕ) → gs ≡ fs → n ≡ length fs → n ≤ most_fields → j < most_fields
    → get_or (gs ++ drop n (entries most_fields)) j Field3 ≡ get_or fs j Field22
filled_at fs gs n j e l h k =
    let long : j < length (fs ++ entries (most_fields - n)) = omega
    (arith, l, h, k, length-append fs (entries (most_fields - n)), entries_long (most_fields - n)) in
    rw (e, drop_entries n most_fields h) (row_at fs (most_fields - n) j long)

-- the forms that a type has are those of a row
pub row_filled : (t : MessageType) (n : ℕ) (fs row : List Form) → length fs ≤ most_fields → ((j : ℕ) → form_at t n j ≡ get_or fs j Field22)
    → ((j : ℕ) → j < most_fields → get_or row j Field3 ≡ get_or fs j Field22) → RowFor t n row
row_filled t n fs row l e f j = (λ h. f j h ∙ sym (e j), λ h. sym (e j ∙ get_or-eq_default fs Field22 {n = j} (omega (arith, l, h))))

-- the contract of a row determines it
pub row_one : (t : MessageType) (n : ℕ) (fs gs : List Form) → length fs ≡ most_fields → length gs ≡ most_fields → RowFor t n fs → RowFor t n gs → fs ≡ gs
row_one t n fs gs l m f g = ext_get_or Field3 fs gs (l ∙ sym m) (λ j h. (f j).0 (omega arith) ∙ sym ((g j).0 (omega arith)))

-- COUNTS

pub least_some : (t : MessageType) → 4 ≤ least_of t
unfolding types_read
least_some t = leb-true 4 (least_of t) (each (λ u. leb 4 (least_of u)) refl t)

-- A TEST OF EVERY TYPE AND COUNT, computed, holds for a count that a type allows

abbrev pub from : ℕ → ℕ → List ℕ
from a zero = []
from a (suc k) = a ∷ from (suc a) k

test_from : (P : ℕ → Bool) (a k n : ℕ) → all P (from a k) ≡ true → a ≤ n → n < a + k → P n ≡ true
test_from P a zero n h l g = absurd (omega arith)
test_from P a (suc k) n h l g =
    let b = both (P a) (all P (from (suc a) k)) h in
    go (λ i. test_from P (suc a) k n b.1 i (omega arith)) b.0 (eqb a n) refl
  where
    go : (suc a ≤ n → P n ≡ true) → P a ≡ true → (b : Bool) → eqb a n ≡ b → P n ≡ true
    go ih p true e = ap P (sym (eqb-true a n e)) ∙ p
    go ih p false e = let d = eqb-false a n e in ih (omega arith)

abbrev pub all_counts : (MessageType → ℕ → Bool) → MessageType → Bool
all_counts P t = all (P t) (from (least_of t) (suc (greatest_of t - least_of t)))

pub each_count : (P : MessageType → ℕ → Bool) → all (all_counts P) types_read ≡ true → (t : MessageType) (n : ℕ) → least_of t ≤ n → n ≤ greatest_of t → P t n
    ≡ true
each_count P h t n l g = test_from (P t) (least_of t) (suc (greatest_of t - least_of t)) n (each (all_counts P) h t) l (omega arith)

-- there are as many forms as fields
pub forms_length : (t : MessageType) (n : ℕ) → least_of t ≤ n → n ≤ greatest_of t → length (forms_of t n) ≡ n
unfolding types_read forms_of plan_forms brief_forms request_forms arrival_forms diverted_forms supplement_forms
forms_length t n l g = eqb-true (length (forms_of t n)) n (each_count (λ u k. eqb (length (forms_of u k)) k) refl t n l g)
