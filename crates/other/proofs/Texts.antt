-- Words under a key: what the code tests of them, and that each is a text word. Assumes nothing.
use Prim.Native.Nat.{ℕ, ◌*◌, ◌<◌, ◌≤◌}
use mathlib.Core.Path.{◌≡◌, refl, sym, ap, ◌∙◌}
use mathlib.Core.Bool.{Bool, true, false, ◌&&◌, not}
use mathlib.Core.List.{List, [], ◌∷◌}
use native.Mathlib.Omega.{arith}
use lib.Dec.{leb, eqb}
use lib.ListN.{length, length-append}
use borrow.Author.Tests.{eqb-true, leb-true, leb-false, le-leb, lt-leb}
use Rattle.alphabet.specs.Alphabet.{letter, sign, text, in_alphabet, white, one_of}
use Rattle.text.specs.Words.{Word, all, elem, text_word}
use Rattle.text.proofs.Tests.{both, and_false, all_imp, of_one, of_elem, elem-length}
use Rattle.text.proofs.Tidy.{sign_text, letter_sign, digit_sign, text_word_lem}
use Rattle.shape.specs.Shape.{fits, wide}
use Rattle.shape.proofs.Index.{fits_lengths}
use Rattle.shape.proofs.Exact.{fits_all}
use Rattle.codes.specs.Codes.{codes, concat, codes_fit}
use Rattle.codes.proofs.Laws.{concat_codes, fit_all_lem}
use Rattle.other.specs.Rules.{statuses, approvals, approved, year_month_day, date, timed, hexadecimal, word_fits, single, more_fits}
use Rattle.other.specs.declared.Rule.{Rule}
use Rattle.other.specs.declared.Rule.TheVariants.{Status, Approvals, Day, Timed, Selcal, Address, Free}

-- CODES OF TWO BYTES EACH

concat_twos : (list : List Word) → all (λ c. eqb (length c) 2) list ≡ true → (ws : List Word) → codes_fit list ws ≡ true → length (concat ws) ≡ 2 * length ws
concat_twos list a [] e = refl
concat_twos list a (w ∷ ws) e =
    let h = both (elem w list) _ e in
    let n : length w ≡ 2 = elem-length 2 list a w h.0 in
    omega (arith, length-append w (concat ws), concat_twos list a ws (both (not (elem w ws)) _ h.1).1)

approvals_two : all (λ c. eqb (length c) 2) approvals ≡ true
unfolding approvals
approvals_two = refl

module _ (w : Word) (e : codes_fit approvals (codes w) ≡ true) where
  approved_length : length w ≡ 2 * length (codes w)
  approved_length = ap length (sym (concat_codes w)) ∙ concat_twos approvals approvals_two (codes w) e

  pub approved_none : length w < 1 → approved w ≡ false
  unfolding approved
  approved_none h = rw (e, lt-leb 1 (length (codes w)) (omega (arith, approved_length)))

  pub approved_count : 1 ≤ length w → approved w ≡ leb (length w) 16
  unfolding approved
  approved_count h = rw (e, le-leb 1 (length (codes w)) (omega (arith, approved_length))) (go (leb (length w) 16) refl)
    where
      go : (b : Bool) → leb (length w) 16 ≡ b → leb (length (codes w)) 8 ≡ b
      go true q = le-leb (length (codes w)) 8 (omega (arith, approved_length, leb-true (length w) 16 q))
      go false q = lt-leb (length (codes w)) 8 (omega (arith, approved_length, leb-false (length w) 16 q))

pub approved_other : (w : Word) → codes_fit approvals (codes w) ≡ false → approved w ≡ false
unfolding approved
approved_other w e = rw e

-- as the code asks it, of the bytes
pub approved_bytes : (w : Word) → (leb 1 (length w) && (leb (length w) 16 && codes_fit approvals (codes w))) ≡ approved w
approved_bytes w = go (codes_fit approvals (codes w)) refl (leb 1 (length w)) refl
  where
    last : (b : Bool) → (b && true) ≡ b
    last true = refl
    last false = refl

    go : (x : Bool) → codes_fit approvals (codes w) ≡ x → (y : Bool) → leb 1 (length w) ≡ y → (y && (leb (length w) 16 && x)) ≡ approved w
    go true e true q = last (leb (length w) 16) ∙ sym (approved_count w e (leb-true 1 (length w) q))
    go true e false q = sym (approved_none w e (leb-false 1 (length w) q))
    go false e y q = and_false y (leb (length w) 16 && false) (and_false (leb (length w) 16) false refl) ∙ sym (approved_other w e)

-- EACH IS A TEXT WORD

signs : (w : Word) → 0 < length w → all sign w ≡ true → text_word w ≡ true
signs w h e = text_word_lem sign sign_text w h e

status_text : (w : Word) → elem w statuses ≡ true → text_word w ≡ true
unfolding statuses text in_alphabet white
status_text w e = of_elem text_word statuses refl w e

approvals_signs : all (all sign) approvals ≡ true
unfolding approvals
approvals_signs = refl

approved_text : (w : Word) → approved w ≡ true → text_word w ≡ true
unfolding approved
approved_text w e =
    let g = both (codes_fit approvals (codes w)) _ e in
    let n : 1 ≤ length (codes w) = leb-true 1 (length (codes w)) (both (leb 1 (length (codes w))) _ g.1).0 in
    signs w (omega (arith, approved_length w g.0)) (rw concat_codes at (fit_all_lem sign approvals approvals_signs (codes w) g.0))

date_text : (w : Word) → date w ≡ true → text_word w ≡ true
unfolding date
date_text w e =
    let f : fits (wide year_month_day) w ≡ true = (both (fits (wide year_month_day) w) _ e).0 in
    signs w (omega (arith, fits_lengths (wide year_month_day) w f)) (fits_all sign digit_sign (wide year_month_day) w refl f)

timed_text : (w : Word) → timed w ≡ true → text_word w ≡ true
unfolding timed
timed_text w e =
    let g = both (leb 6 (length w)) _ e in
    let h = both (leb (length w) 15) _ g.1 in
    signs w (omega (arith, leb-true 6 (length w) g.0)) (both (all sign w) _ h.1).0

hexadecimal_signs : all sign hexadecimal ≡ true
unfolding hexadecimal
hexadecimal_signs = refl

sized : (n : ℕ) (w : Word) (b : Bool) → 0 < n → (eqb (length w) n && b) ≡ true → (0 < length w) × (b ≡ true)
sized n w b h e = let g = both (eqb (length w) n) b e in (omega (arith, eqb-true (length w) n g.0), g.1)

pub word_text : (r : Rule) (w : Word) → word_fits r w ≡ true → text_word w ≡ true
word_text Status w e = status_text w e
word_text Approvals w e = approved_text w e
word_text Day w e = date_text w e
word_text Timed w e = timed_text w e
word_text Selcal w e = let g = sized 4 w (all letter w) (omega arith) e in signs w g.0 (all_imp letter sign letter_sign w g.1)
word_text Address w e =
    let g = sized 6 w (all (λ b. one_of b hexadecimal) w) (omega arith) e in
    signs w g.0 (all_imp (λ b. one_of b hexadecimal) sign (of_one sign hexadecimal hexadecimal_signs) w g.1)
word_text Free w e = e

pub more_text : (r : Rule) (ws : List Word) → all (more_fits r) ws ≡ true → all text_word ws ≡ true
more_text r ws e = all_imp (more_fits r) text_word (λ w h. word_text r w (both (not (single r)) (word_fits r w) h).1) ws e
