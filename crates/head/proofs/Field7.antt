-- Field 7: contents that fit and valid records determine one another. Assumes nothing.
use Prim.Native.Nat.{ℕ, ◌<◌}
use mathlib.Core.Path.{◌≡◌, refl, sym, ap, ◌∙◌}
use mathlib.Core.Bool.{Bool, true, false, ◌&&◌, cond, false≢true}
use mathlib.Core.List.{List, [], ◌∷◌, ◌++◌, append-nil}
use mathlib.Core.Option.{Option, none, some}
use native.Mathlib.Omega.{arith}
use lib.Dec.{leb, eqb}
use lib.ListN.{length, drop}
use lib.Seq.{take-length}
use borrow.Author.Tests.{leb-true, ltb-false, eqb-true}
use Rattle.alphabet.specs.Text.{bytes}
use Rattle.alphabet.specs.Alphabet.{sign}
use Rattle.text.specs.Words.{Word, up_to, holds, before, behind, all, free, tidy_byte, tidy}
use Rattle.text.proofs.Tests.{both, and_both, all_imp, all-free}
use Rattle.text.proofs.Index.{up_to-le}
use Rattle.text.proofs.Joined.{seam, holds_seam, before_seam, behind_seam, holds-free}
use Rattle.text.proofs.Tidy.{sign_tidy, digit_sign, tidy_word_lem, tidy_cut, tidy_one}
use Rattle.shape.specs.Shape.{letters, fits}
use Rattle.shape.specs.Field.{Laws}
use Rattle.shape.proofs.Exact.{fits_all}
use Rattle.shape.proofs.Fields.{Facts, plain}
use Rattle.head.specs.Field7.{spell_code, spell7, identification_fits, valid_code, valid7, fits7, record7, field7}

-- the code behind its letter
code_cut : (w : Word) → fits (bytes "Aoooo") w ≡ true → (65 ∷ drop 1 w ≡ w) × (fits (bytes "oooo") (drop 1 w) ≡ true)
unfolding letters
code_cut [] e = absurd (false≢true e)
code_cut (b ∷ w) e = go (eqb b 65) refl e
  where
    go : (t : Bool) → eqb b 65 ≡ t → (cond t true false && fits (bytes "oooo") w) ≡ true → (65 ∷ w ≡ b ∷ w) × (fits (bytes "oooo") w ≡ true)
    go true p q = (ap (λ (x : ℕ). x ∷ w) (sym (eqb-true b 65 p)), q)
    go false p q = absurd (false≢true q)

-- signs are no obliques
no_oblique : (w : Word) → identification_fits w ≡ true → free 47 w ≡ true
no_oblique w e = all-free sign 47 refl w (both (leb (length w) 7) (all sign w) (both (leb 2 (length w)) _ e).1).1

-- without an oblique, all stands before it
before-all : (s : List ℕ) → holds 47 s ≡ false → before 47 s ≡ s
before-all s e =
    let h = ltb-false (up_to 47 s) (length s) e in
    let z : up_to 47 s ≡ length s = omega (arith, up_to-le 47 s) in
    rw z (take-length s)

spelled : (s : List ℕ) → fits7 s ≡ true → spell7 (record7 s) ≡ s
unfolding fits7
spelled s e = go (holds 47 s) refl e
  where
    go : (b : Bool) → holds 47 s ≡ b → cond b (identification_fits (before 47 s) && fits (bytes "Aoooo") (behind 47 s)) (identification_fits s) ≡ true
        → before 47 s ++ spell_code (cond b (some (drop 1 (behind 47 s))) none) ≡ s
    go true p q =
        let h = both (identification_fits (before 47 s)) (fits (bytes "Aoooo") (behind 47 s)) q in
        ap (λ (w : Word). before 47 s ++ (47 ∷ w)) (code_cut (behind 47 s) h.1).0 ∙ seam 47 s p
    go false p q = append-nil (before 47 s) ∙ before-all s p

held : (s : List ℕ) → fits7 s ≡ true → valid7 (record7 s) ≡ true
unfolding fits7 valid7
held s e = go (holds 47 s) refl e
  where
    go : (b : Bool) → holds 47 s ≡ b → cond b (identification_fits (before 47 s) && fits (bytes "Aoooo") (behind 47 s)) (identification_fits s) ≡ true
        → (identification_fits (before 47 s) && valid_code (cond b (some (drop 1 (behind 47 s))) none)) ≡ true
    go true p q =
        let h = both (identification_fits (before 47 s)) (fits (bytes "Aoooo") (behind 47 s)) q in
        and_both (identification_fits (before 47 s)) _ h.0 (code_cut (behind 47 s) h.1).1
    go false p q = and_both (identification_fits (before 47 s)) true (ap identification_fits (before-all s p) ∙ q) refl

module _ (w : Word) (e : identification_fits w ≡ true) where
  back : (c : Option Word) → valid_code c ≡ true → (fits7 (w ++ spell_code c) ≡ true) × (record7 (w ++ spell_code c) ≡ record { identification = w; code = c })
  unfolding fits7 letters
  back none v =
      let f = holds-free 47 w (no_oblique w e) in
      rw append-nil (rw f e, rw (f, before-all w f))
  back (some c) v =
      let f = no_oblique w e in
      let h = holds_seam 47 w (65 ∷ c) f in
      let x = before_seam 47 w (65 ∷ c) f in
      let y = behind_seam 47 w (65 ∷ c) f in
      (rw (h, x, y, e) v, rw (h, x, y))

-- a content's bytes
code_tidy : (c : Word) → fits (bytes "Aoooo") c ≡ true → all tidy_byte c ≡ true
unfolding letters
code_tidy c e = all_imp sign tidy_byte sign_tidy c (fits_all sign digit_sign (bytes "Aoooo") c refl e)

signs_tidy : (w : Word) → identification_fits w ≡ true → (0 < length w) × (all tidy_byte w ≡ true)
signs_tidy w e =
    let h = both (leb 2 (length w)) _ e in
    (omega (arith, leb-true 2 (length w) h.0), all_imp sign tidy_byte sign_tidy w (both (leb (length w) 7) (all sign w) h.1).1)

tidied : (s : List ℕ) → fits7 s ≡ true → tidy s ≡ true
unfolding fits7
tidied s e = go (holds 47 s) refl e
  where
    go : (b : Bool) → holds 47 s ≡ b → cond b (identification_fits (before 47 s) && fits (bytes "Aoooo") (behind 47 s)) (identification_fits s) ≡ true
        → tidy s ≡ true
    go true p q =
        let h = both (identification_fits (before 47 s)) (fits (bytes "Aoooo") (behind 47 s)) q in
        let a = signs_tidy (before 47 s) h.0 in
        tidy_one s (tidy_cut s p a.1 (code_tidy (behind 47 s) h.1))
    go false p q = let a = signs_tidy s q in tidy_one s (tidy_word_lem tidy_byte (λ b t. t) s a.0 a.1)

facts : Facts field7
unfolding valid7
facts =
    record {
      spelled = spelled;
      held = held;
      taken = λ r v. let h = both (identification_fits r.identification) (valid_code r.code) v in (back r.identification h.0 r.code h.1).0;
      back = λ r v. let h = both (identification_fits r.identification) (valid_code r.code) v in (back r.identification h.0 r.code h.1).1;
      tidied = tidied;
    }

pub field7_laws : Laws field7
field7_laws = plain field7 (λ r. refl) facts

-- what `identification` gives of a content is its record's
pub identification_law : (s : List ℕ) → (record7 s).identification ≡ before 47 s
identification_law s = refl
