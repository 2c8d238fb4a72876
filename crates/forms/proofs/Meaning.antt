-- Field 19's form is the only one that is rewritten; and valid records have one canonical record exactly where they say the same, in every form and in
-- a list of forms. Assumes nothing.
use mathlib.Core.Path.{◌≡◌, refl, ap, ap₂}
use mathlib.Core.Bool.{true}
use mathlib.Core.List.{List, [], ◌∷◌, map}
use Rattle.text.proofs.Tests.{both}
use Rattle.canonical.proofs.Meaning.{canonical_keeps}
use Rattle.kinds.specs.declared.Form.{Form}
use Rattle.kinds.specs.declared.Form.TheVariants.{Field3, Field7, Field8, Field9, Field10, Field13, Field13Open, Field15}
use Rattle.kinds.specs.declared.Form.TheVariants.{Field16, Field16Plan, Field17, Field18, Field19, Field22}
use Rattle.kinds.specs.Kinds.{number_of}
use Rattle.records.specs.Records.{Records, valid_all, canonical_all}
use Rattle.forms.specs.Forms.{field_of}
use Rattle.forms.specs.Meaning.{Alike, AllAlike}

pub canonical_identity : (f : Form) → (number_of f ≡ 19 → ⊥) → (r : (field_of f).Record) → (field_of f).canonical r ≡ r
canonical_identity Field3 other r = refl
canonical_identity Field7 other r = refl
canonical_identity Field8 other r = refl
canonical_identity Field9 other r = refl
canonical_identity Field10 other r = refl
canonical_identity Field13 other r = refl
canonical_identity Field13Open other r = refl
canonical_identity Field15 other r = refl
canonical_identity Field16 other r = refl
canonical_identity Field16Plan other r = refl
canonical_identity Field17 other r = refl
canonical_identity Field18 other r = refl
canonical_identity Field19 other r = absurd (other refl)
canonical_identity Field22 other r = refl

-- ONE FORM

apart : (f : Form) (r q : (field_of f).Record) → (field_of f).valid r ≡ true → (field_of f).valid q ≡ true
    → (field_of f).canonical r ≡ (field_of f).canonical q → Alike f r q
apart Field3 r q v w e = e
apart Field7 r q v w e = e
apart Field8 r q v w e = e
apart Field9 r q v w e = e
apart Field10 r q v w e = e
apart Field13 r q v w e = e
apart Field13Open r q v w e = e
apart Field15 r q v w e = e
apart Field16 r q v w e = e
apart Field16Plan r q v w e = e
apart Field17 r q v w e = e
apart Field18 r q v w e = e
apart Field19 r q v w e = canonical_keeps.apart r q v w e
apart Field22 r q v w e = e

together : (f : Form) (r q : (field_of f).Record) → (field_of f).valid r ≡ true → (field_of f).valid q ≡ true
    → Alike f r q → (field_of f).canonical r ≡ (field_of f).canonical q
together Field3 r q v w a = a
together Field7 r q v w a = a
together Field8 r q v w a = a
together Field9 r q v w a = a
together Field10 r q v w a = a
together Field13 r q v w a = a
together Field13Open r q v w a = a
together Field15 r q v w a = a
together Field16 r q v w a = a
together Field16Plan r q v w a = a
together Field17 r q v w a = a
together Field18 r q v w a = a
together Field19 r q v w a = canonical_keeps.together r q v w a
together Field22 r q v w a = a

-- A LIST OF FORMS

pub all_apart : (fs : List Form) (rs qs : Records (map field_of fs)) → valid_all (map field_of fs) rs ≡ true → valid_all (map field_of fs) qs ≡ true
    → canonical_all (map field_of fs) rs ≡ canonical_all (map field_of fs) qs → AllAlike fs rs qs
all_apart [] rs qs v w e = tt
all_apart (f ∷ fs) rs qs v w e =
    let g = both ((field_of f).valid rs.0) (valid_all (map field_of fs) rs.1) v in
    let h = both ((field_of f).valid qs.0) (valid_all (map field_of fs) qs.1) w in (
      apart f rs.0 qs.0 g.0 h.0 (ap (λ (p : Records (map field_of (f ∷ fs))). p.0) e),
      all_apart fs rs.1 qs.1 g.1 h.1 (ap (λ (p : Records (map field_of (f ∷ fs))). p.1) e),
    )

pub all_together : (fs : List Form) (rs qs : Records (map field_of fs)) → valid_all (map field_of fs) rs ≡ true → valid_all (map field_of fs) qs ≡ true
    → AllAlike fs rs qs → canonical_all (map field_of fs) rs ≡ canonical_all (map field_of fs) qs
all_together [] rs qs v w a = refl
all_together (f ∷ fs) rs qs v w a =
    let g = both ((field_of f).valid rs.0) (valid_all (map field_of fs) rs.1) v in
    let h = both ((field_of f).valid qs.0) (valid_all (map field_of fs) qs.1) w in
    ap₂ (λ (r : (field_of f).Record) (q : Records (map field_of fs)). (r, q))
    (together f rs.0 qs.0 g.0 h.0 a.0) (all_together fs rs.1 qs.1 g.1 h.1 a.1)
