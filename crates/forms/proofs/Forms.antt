-- Every form keeps the laws of a field form; a content is without fault where it fits, and what is written of it is its canonical spelling.
-- Assumes nothing.
use Prim.Native.Nat.{ℕ, ◌≤◌}
use mathlib.Core.Path.{◌≡◌, refl, sym, ap, ◌∙◌}
use mathlib.Core.Bool.{Bool, true, false, cond, false≢true}
use mathlib.Core.List.{List, [], ◌∷◌}
use native.Mathlib.Omega.{arith}
use lib.Dec.{eqb}
use lib.ListN.{length}
use borrow.Author.Tests.{eq-eqb, ne_eqb}
use Rattle.alphabet.specs.Alphabet.{one_of}
use Rattle.shape.specs.Field.{Laws}
use Rattle.shape.proofs.Fields.{read_some, fits_spelling}
use Rattle.head.specs.Field3.{field3}
use Rattle.head.specs.Field7.{field7}
use Rattle.head.specs.Field8.{field8}
use Rattle.head.specs.Field9.{field9}
use Rattle.equipment.specs.Field10.{field10, present}
use Rattle.aerodromes.specs.Field13.{field13, field13open}
use Rattle.aerodromes.specs.Field16.{field16, field16plan}
use Rattle.aerodromes.specs.Field17.{field17}
use Rattle.route.specs.Field15.{field15}
use Rattle.other.specs.Field18.{field18}
use Rattle.canonical.specs.Canonical.{written19}
use Rattle.head.proofs.Field3.{field3_laws}
use Rattle.head.proofs.Field7.{field7_laws}
use Rattle.head.proofs.Field8.{field8_laws}
use Rattle.head.proofs.Field9.{field9_laws}
use Rattle.equipment.proofs.Field10.{present_laws}
use Rattle.aerodromes.proofs.Field13.{field13_laws, field13open_laws}
use Rattle.aerodromes.proofs.Field16.{field16_laws, field16plan_laws}
use Rattle.aerodromes.proofs.Field17.{field17_laws}
use Rattle.route.proofs.Field15.{field15_laws}
use Rattle.other.proofs.Field18.{field18_laws}
use Rattle.canonical.proofs.Canonical.{field19_laws}
use Rattle.canonical.proofs.Written.{written_fits, written_shorter}
use Rattle.kinds.specs.declared.Form.{Form}
use Rattle.kinds.specs.declared.Form.TheVariants.{Field3, Field7, Field8, Field9, Field10, Field13, Field13Open, Field15}
use Rattle.kinds.specs.declared.Form.TheVariants.{Field16, Field16Plan, Field17, Field18, Field19, Field22}
use Rattle.kinds.specs.Kinds.{number_of}
use Rattle.forms.specs.Field22.{field22, which_of, fault22}
use Rattle.forms.specs.Forms.{field_of, is_entry, rank_in, fault_of, written_of}
use Rattle.forms.proofs.Field22.{field22_laws}
use Rattle.forms.proofs.Faults.{fits_none, none_fits, fault_one}

pub laws_of : (f : Form) → Laws (field_of f)
laws_of Field3 = field3_laws
laws_of Field7 = field7_laws
laws_of Field8 = field8_laws
laws_of Field9 = field9_laws
laws_of Field10 = present_laws
laws_of Field13 = field13_laws
laws_of Field13Open = field13open_laws
laws_of Field15 = field15_laws
laws_of Field16 = field16_laws
laws_of Field16Plan = field16plan_laws
laws_of Field17 = field17_laws
laws_of Field18 = field18_laws
laws_of Field19 = field19_laws
laws_of Field22 = field22_laws

-- FAULTS

entry_is : (f : Form) → is_entry f ≡ true → f ≡ Field22
entry_is Field3 e = absurd (false≢true e)
entry_is Field7 e = absurd (false≢true e)
entry_is Field8 e = absurd (false≢true e)
entry_is Field9 e = absurd (false≢true e)
entry_is Field10 e = absurd (false≢true e)
entry_is Field13 e = absurd (false≢true e)
entry_is Field13Open e = absurd (false≢true e)
entry_is Field15 e = absurd (false≢true e)
entry_is Field16 e = absurd (false≢true e)
entry_is Field16Plan e = absurd (false≢true e)
entry_is Field17 e = absurd (false≢true e)
entry_is Field18 e = absurd (false≢true e)
entry_is Field19 e = absurd (false≢true e)
entry_is Field22 e = refl

zero_is : (b : Bool) → ◌≡◌ {A = ℕ} (cond b 0 7) 0 → b ≡ true
zero_is true e = refl
zero_is false e = absurd (omega arith)

-- a content without fault fits
pub fault_fits : (again : Bool) (f : Form) (s : List ℕ) → fault_of again f s ≡ 0 → (field_of f).fits s ≡ true
fault_fits again f s e = go (is_entry f) refl e
  where
    go : (b : Bool) → is_entry f ≡ b → cond b (fault22 again s) (cond ((field_of f).fits s) 0 7) ≡ 0 → (field_of f).fits s ≡ true
    go true q e = ap (λ (g : Form). (field_of g).fits s) (entry_is f q) ∙ (none_fits again s e).1
    go false q e = zero_is ((field_of f).fits s) e

-- a content that fits is without fault, where no earlier entry names its field
pub fits_fault : (f : Form) (s : List ℕ) → (field_of f).fits s ≡ true → fault_of false f s ≡ 0
fits_fault f s e = go (is_entry f) refl
  where
    go : (b : Bool) → is_entry f ≡ b → cond b (fault22 false s) (cond ((field_of f).fits s) 0 7) ≡ 0
    go true q = fits_none s (ap (λ (g : Form). (field_of g).fits s) (sym (entry_is f q)) ∙ e)
    go false q = rw e

-- an entry without fault names a field that no earlier one names
pub fault_once : (again : Bool) (f : Form) (s : List ℕ) → is_entry f ≡ true → fault_of again f s ≡ 0 → again ≡ false
fault_once again f s q e = (none_fits again s (rw q at e)).0

-- a fault is one of four numbers
pub fault_number : (again : Bool) (f : Form) (s : List ℕ) → one_of (fault_of again f s) (0 ∷ (7 ∷ (8 ∷ (9 ∷ [])))) ≡ true
fault_number again f s = go (is_entry f) ((field_of f).fits s)
  where
    go : (b d : Bool) → one_of (cond b (fault22 again s) (cond d 0 7)) (0 ∷ (7 ∷ (8 ∷ (9 ∷ [])))) ≡ true
    go true d = fault_one again s
    go false true = refl
    go false false = refl

-- WHAT IS WRITTEN of a content that fits is the spelling of its canonical record

pub written_canonical : (f : Form) (s : List ℕ) → (field_of f).fits s ≡ true → written_of f s
    ≡ (field_of f).spell ((field_of f).canonical ((field_of f).record_of s))
written_canonical Field3 s e = sym (fits_spelling field3 field3_laws s e).1
written_canonical Field7 s e = sym (fits_spelling field7 field7_laws s e).1
written_canonical Field8 s e = sym (fits_spelling field8 field8_laws s e).1
written_canonical Field9 s e = sym (fits_spelling field9 field9_laws s e).1
written_canonical Field10 s e = sym (fits_spelling (field10 present) present_laws s e).1
written_canonical Field13 s e = sym (fits_spelling field13 field13_laws s e).1
written_canonical Field13Open s e = sym (fits_spelling field13open field13open_laws s e).1
written_canonical Field15 s e = sym (fits_spelling field15 field15_laws s e).1
written_canonical Field16 s e = sym (fits_spelling field16 field16_laws s e).1
written_canonical Field16Plan s e = sym (fits_spelling field16plan field16plan_laws s e).1
written_canonical Field17 s e = sym (fits_spelling field17 field17_laws s e).1
written_canonical Field18 s e = sym (fits_spelling field18 field18_laws s e).1
written_canonical Field19 s e = written_fits s e
written_canonical Field22 s e = sym (fits_spelling field22 field22_laws s e).1

-- it is no longer than the content
pub written_short : (f : Form) (s : List ℕ) → length (written_of f s) ≤ length s
written_short f s = go (eqb (number_of f) 19)
  where
    go : (b : Bool) → length (cond b (written19 s) s) ≤ length s
    go true = written_shorter s
    go false = omega arith

-- it fits the form again, and its record is the canonical one
pub written_read : (f : Form) (s : List ℕ) → (field_of f).fits s ≡ true
    → ((field_of f).fits (written_of f s) ≡ true) × ((field_of f).record_of (written_of f s) ≡ (field_of f).canonical ((field_of f).record_of s))
written_read f s e =
    let r = (field_of f).record_of s in
    let q = (field_of f).canonical r in
    let v = (laws_of f).kept r (fits_spelling (field_of f) (laws_of f) s e).0 in
    let b = read_some (field_of f) ((field_of f).spell q) q ((laws_of f).complete q v) in
    let w = written_canonical f s e in
    (ap (field_of f).fits w ∙ b.0, ap (field_of f).record_of w ∙ b.1)

-- BY THE NUMBER OF A FORM

module _ (f : Form) (s : List ℕ) (n : ℕ) (e : n ≡ number_of f) where
  pub is_entry_lem : n ≡ 22 → is_entry f ≡ true
  is_entry_lem h = eq-eqb (number_of f) 22 (sym e ∙ h)

  pub no_entry : (n ≡ 22 → ⊥) → is_entry f ≡ false
  no_entry h = ne_eqb (number_of f) 22 (λ q. h (e ∙ q))

  pub entry_rank : n ≡ 22 → which_of s ≡ rank_in f s
  entry_rank h = rw (is_entry_lem h)

  pub other_rank : (n ≡ 22 → ⊥) → 0 ≡ rank_in f s
  other_rank h = rw (no_entry h)
