-- What is proved of a field form follows from five facts about its contents and its records; and what follows from it, for every form.
-- Assumes nothing.
use Prim.Native.Nat.{ℕ, ◌≤◌}
use mathlib.Core.Path.{◌≡◌, refl, sym, ap, ◌∙◌}
use mathlib.Core.Bool.{Bool, true, false, cond}
use mathlib.Core.List.{List}
use mathlib.Core.Option.{none, some}
use native.Mathlib.Omega.{arith}
use lib.ListN.{length}
use Rattle.text.specs.Words.{tidy}
use Rattle.shape.specs.Field.{Field, read, Laws}

-- WHAT IS TO BE SHOWN of a form
pub record Facts (f : Field) : Type 0 where
  pub spelled : (s : List ℕ) → f.fits s ≡ true → f.spell (f.record_of s) ≡ s
  pub held : (s : List ℕ) → f.fits s ≡ true → f.valid (f.record_of s) ≡ true
  pub taken : (r : f.Record) → f.valid r ≡ true → f.fits (f.spell r) ≡ true
  pub back : (r : f.Record) → f.valid r ≡ true → f.record_of (f.spell r) ≡ r
  pub tidied : (s : List ℕ) → f.fits s ≡ true → tidy s ≡ true

-- a content that is read as r fits, and r is its record
pub read_some : (f : Field) (s : List ℕ) (r : f.Record) → read f s ≡ some r → (f.fits s ≡ true) × (f.record_of s ≡ r)
read_some f s r e = go (f.fits s) refl e
  where
    go : (b : Bool) → f.fits s ≡ b → cond b (some (f.record_of s)) none ≡ some r → (f.fits s ≡ true) × (f.record_of s ≡ r)
    go true p q = (p, cc)
    go false p q = let z : ◌≡◌ {A = ℕ} 0 1 = cc in absurd (omega arith)

pub read_fits : (f : Field) (s : List ℕ) → f.fits s ≡ true → read f s ≡ some (f.record_of s)
read_fits f s e = rw e

-- the laws, of a form that rewrites
pub laws : (f : Field) → Facts f
    → ((r : f.Record) → f.valid r ≡ true → f.valid (f.canonical r) ≡ true)
    → ((r : f.Record) → f.canonical (f.canonical r) ≡ f.canonical r)
    → ((r : f.Record) → f.valid r ≡ true → length (f.spell (f.canonical r)) ≤ length (f.spell r))
    → Laws f
laws f k kept settled shorter =
    record {
      exact = λ s r e. let h = read_some f s r e in sym (ap f.spell h.1) ∙ k.spelled s h.0;
      sound = λ s r e. let h = read_some f s r e in sym (ap f.valid h.1) ∙ k.held s h.0;
      complete = λ r v. read_fits f (f.spell r) (k.taken r v) ∙ ap some (k.back r v);
      tidied = k.tidied;
      kept = kept;
      settled = settled;
      shorter = shorter;
    }

-- and of one that does not
pub plain : (f : Field) → ((r : f.Record) → f.canonical r ≡ r) → Facts f → Laws f
plain f same k =
    laws f k
    (λ r v. ap f.valid (same r) ∙ v)
    (λ r. same (f.canonical r))
    (λ r v. omega (arith, ap (λ (q : f.Record). length (f.spell q)) (same r)))

-- WHAT FOLLOWS, for every form

-- a content fits exactly where it is the spelling of a valid record
pub fits_spelling : (f : Field) → Laws f → (s : List ℕ) → f.fits s ≡ true → (f.valid (f.record_of s) ≡ true) × (f.spell (f.record_of s) ≡ s)
fits_spelling f k s e = let h = read_fits f s e in (k.sound s (f.record_of s) h, k.exact s (f.record_of s) h)

pub spelling_fits : (f : Field) → Laws f → (r : f.Record) → f.valid r ≡ true → f.fits (f.spell r) ≡ true
spelling_fits f k r v = (read_some f (f.spell r) r (k.complete r v)).0

-- valid records with one spelling are one record
pub one_record : (f : Field) → Laws f → (r q : f.Record) → f.valid r ≡ true → f.valid q ≡ true → f.spell r ≡ f.spell q → r ≡ q
one_record f k r q v w e =
    sym (read_some f (f.spell r) r (k.complete r v)).1 ∙ ap f.record_of e ∙ (read_some f (f.spell q) q (k.complete q w)).1
