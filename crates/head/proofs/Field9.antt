-- Field 9: contents that fit and valid records determine one another. Assumes nothing.
use Prim.Native.Nat.{ℕ, suc, ◌+◌, ◌/◌, ◌<◌, ◌≤◌}
use mathlib.Core.Path.{◌≡◌, refl, sym, ap, ap₂, ◌∙◌}
use mathlib.Core.Bool.{Bool, true, false, cond, beq, false≢true}
use mathlib.Core.List.{List, [], ◌∷◌, ◌++◌}
use native.Mathlib.Omega.{arith}
use native.Mathlib.Nat.{div-one, le-div_iff_mul-le}
use lib.Dec.{leb, ltb, eqb}
use lib.ListN.{length, take-append-drop, length-append}
use lib.Seq.{take-append_seam, drop-append_seam}
use borrow.Author.Tests.{leb-true, ltb-true, ltb-false, le-leb, lt-ltb, le-ltb, eqb-true}
use Rattle.alphabet.specs.Text.{bytes}
use Rattle.alphabet.specs.Alphabet.{letter, digit, sign}
use Rattle.text.specs.Words.{Word, holds, before, behind, all, free, tidy_byte, tidy}
use Rattle.text.proofs.Tests.{both, all_imp, all_append, all-free, of_one}
use Rattle.text.proofs.Joined.{seam, holds_seam, before_seam, behind_seam}
use Rattle.text.proofs.Tidy.{letter_tidy, sign_tidy, digit_tidy, oblique_tidy, tidy_word_lem, tidy_one}
use Rattle.shape.specs.Numbers.{digits, value}
use Rattle.shape.specs.Field.{Laws}
use Rattle.shape.proofs.Numbers.{value_below, digits_value, value_digits, digits_digits}
use Rattle.shape.proofs.Fields.{Facts, plain}
use Rattle.head.specs.Runs.{lead}
use Rattle.head.specs.Field9.{Field9, spell_count, spell9, type_fits, wake_fits, valid9, number, aircraft}
use Rattle.head.specs.Field9.{count_fits, count_of, wake_of, is_wake, aircraft_fits, fits9, record9, field9}
use Rattle.head.proofs.Laws.{within, ends, lead_within, lead_seam, letter_no_digit}

-- THE NUMBER, as its digits

spelled_count : (w : Word) → all digit w ≡ true → count_fits w ≡ true → (spell_count (count_of w) ≡ w) × (1 ≤ count_of w) × (count_of w ≤ 99)
unfolding count_fits
spelled_count [] d e = (refl, omega arith, omega arith)
spelled_count (a ∷ []) d e =
    let l = leb-true 50 a e in
    let b : value (a ∷ []) < 10 = value_below (a ∷ []) d in
    let g : 2 ≤ value (a ∷ []) = omega arith in
    (rw (le-ltb (value (a ∷ [])) 2 g, lt-ltb (value (a ∷ [])) 10 b) (digits_value (a ∷ []) d), omega arith, omega arith)
spelled_count (a ∷ (b ∷ [])) d e =
    let l = leb-true 49 a e in
    let h : value (a ∷ (b ∷ [])) < 100 = value_below (a ∷ (b ∷ [])) d in
    let g : 10 ≤ value (a ∷ (b ∷ [])) = omega arith in
    let k : 2 ≤ value (a ∷ (b ∷ [])) = omega arith in
    (rw (le-ltb (value (a ∷ (b ∷ []))) 2 k, le-ltb (value (a ∷ (b ∷ []))) 10 g) (digits_value (a ∷ (b ∷ [])) d), omega arith, omega arith)
spelled_count (a ∷ (b ∷ (c ∷ w))) d e = absurd (false≢true e)

count_back : (n : ℕ) → 1 ≤ n → n ≤ 99 → (all digit (spell_count n) ≡ true) × (count_fits (spell_count n) ≡ true) × (count_of (spell_count n) ≡ n)
unfolding count_fits
count_back n l m = go (ltb n 2) refl (ltb n 10) refl
  where
    Back : Word → Type 0
    Back w = (all digit w ≡ true) × (count_fits w ≡ true) × (count_of w ≡ n)

    go : (x : Bool) → ltb n 2 ≡ x → (y : Bool) → ltb n 10 ≡ y → Back (cond x [] (cond y (digits 1 n) (digits 2 n)))
    go true p y q = let h = ltb-true n 2 p in (refl, refl, omega arith)
    go false p true q =
        let h = ltb-false n 2 p in
        let k = ltb-true n 10 q in
        (digits_digits 1 n k, le-leb 50 (48 + n / 1) (omega (arith, div-one n)), value_digits 1 n k)
    go false p false q =
        let k = ltb-false n 10 q in
        let t : 1 ≤ n / 10 = (le-div_iff_mul-le {k = 10} {x = 1} {y = n} (omega arith)).1 (omega arith) in
        (digits_digits 2 n (omega arith), le-leb 49 (48 + n / 10) (omega arith), value_digits 2 n (omega arith))

-- digits are within a run of digits, and what is within one is digits
beq_true : (a : Bool) → beq a true ≡ true → a ≡ true
beq_true true e = refl
beq_true false e = absurd (false≢true e)

run_digits : (w : Word) → within true w ≡ true → all digit w ≡ true
run_digits w e = all_imp (λ b. beq (digit b) true) digit (λ b h. beq_true (digit b) h) w e

digits_run : (w : Word) → all digit w ≡ true → within true w ≡ true
digits_run w e = all_imp digit (λ b. beq (digit b) true) (λ b h. rw h) w e

-- THE AIRCRAFT

-- the wake category, as one byte
wake_one : (w : Word) → is_wake w ≡ true → (wake_of w ∷ [] ≡ w) × (wake_fits (wake_of w) ≡ true)
wake_one [] e = absurd (false≢true e)
wake_one (a ∷ []) e = (refl, e)
wake_one (a ∷ (b ∷ w)) e = absurd (omega (arith, eqb-true (suc (suc (length w))) 1 (both (eqb (suc (suc (length w))) 1) (wake_fits a) e).0))

-- what a type is
record Typed (w : Word) : Type 0 where
  some_signs_lem : 0 < length w
  signs : all sign w ≡ true
  starts : ends true w ≡ true
  clear : free 47 w ≡ true

typed : (w : Word) → type_fits w ≡ true → Typed w
typed [] e = absurd (false≢true e)
typed (b ∷ w) e =
    let g = both (leb 2 (length (b ∷ w))) _ e in
    let h = both (leb (length (b ∷ w)) 4) _ g.1 in
    let k = both (letter b) (all sign (b ∷ w)) h.1 in
    record {
      some_signs_lem = omega arith;
      signs = k.1;
      starts = letter_no_digit b k.0;
      clear = all-free sign 47 refl (b ∷ w) k.1;
    }

spelled_aircraft : (t : List ℕ) → aircraft_fits t ≡ true
    → (before 47 t ++ (47 ∷ (wake_of (behind 47 t) ∷ [])) ≡ t) × (type_fits (before 47 t) ≡ true) × (wake_fits (wake_of (behind 47 t)) ≡ true)
unfolding aircraft_fits
spelled_aircraft t e =
    let g = both (holds 47 t) _ e in
    let h = both (type_fits (before 47 t)) (is_wake (behind 47 t)) g.1 in
    let w = wake_one (behind 47 t) h.1 in
    (ap (λ (v : Word). before 47 t ++ (47 ∷ v)) w.0 ∙ seam 47 t g.0, h.0, w.1)

module _ (w : Word) (b : ℕ) (e : type_fits w ≡ true) (f : wake_fits b ≡ true) where
  clear' : free 47 w ≡ true
  clear' = (typed w e).clear

  aircraft_back : (aircraft_fits (w ++ (47 ∷ (b ∷ []))) ≡ true) × (before 47 (w ++ (47 ∷ (b ∷ []))) ≡ w) × (behind 47 (w ++ (47 ∷ (b ∷ []))) ≡ b ∷ [])
  unfolding aircraft_fits
  aircraft_back =
      let x = before_seam 47 w (b ∷ []) clear' in
      let y = behind_seam 47 w (b ∷ []) clear' in
      (rw (holds_seam 47 w (b ∷ []) clear', x, y, e) f, x, y)

-- THE WHOLE

spelled : (s : List ℕ) → fits9 s ≡ true → spell9 (record9 s) ≡ s
unfolding fits9
spelled s e =
    let h = both (count_fits (number s)) (aircraft_fits (aircraft s)) e in
    let n = spelled_count (number s) (run_digits (number s) (lead_within true s)) h.0 in
    ap₂ (λ (u v : Word). u ++ v) n.0 (spelled_aircraft (aircraft s) h.1).0 ∙ take-append-drop (lead true s) s

held : (s : List ℕ) → fits9 s ≡ true → valid9 (record9 s) ≡ true
unfolding fits9 valid9
held s e =
    let h = both (count_fits (number s)) (aircraft_fits (aircraft s)) e in
    let n = spelled_count (number s) (run_digits (number s) (lead_within true s)) h.0 in
    let a = spelled_aircraft (aircraft s) h.1 in
    rw (le-leb 1 (count_of (number s)) n.1, le-leb (count_of (number s)) 99 n.2, a.1) a.2

wake_letter : (b : ℕ) → wake_fits b ≡ true → letter b ≡ true
wake_letter b e = of_one letter (bytes "HML") refl b e

-- what follows the number begins with a letter
starts_append : (w f : Word) → 0 < length w → ends true w ≡ true → ends true (w ++ f) ≡ true
starts_append [] f h e = absurd (omega arith)
starts_append (b ∷ w) f h e = e

module _ (n : ℕ) (w : Word) (b : ℕ) (l : 1 ≤ n) (m : n ≤ 99) (e : type_fits w ≡ true) (f : wake_fits b ≡ true) where
  tail : Word
  tail = w ++ (47 ∷ (b ∷ []))

  whole : Word
  whole = spell_count n ++ tail

  cut : lead true whole ≡ length (spell_count n)
  unfolding whole tail
  cut =
      let t = typed w e in
      lead_seam true (spell_count n) tail (digits_run (spell_count n) (count_back n l m).0) (starts_append w (47 ∷ (b ∷ [])) t.some_signs_lem t.starts)

  number_is : number whole ≡ spell_count n
  unfolding whole
  number_is = rw cut (take-append_seam (spell_count n) tail)

  aircraft_is : aircraft whole ≡ tail
  unfolding whole
  aircraft_is = rw cut (drop-append_seam (spell_count n) tail)

  taken : fits9 whole ≡ true
  unfolding fits9 tail
  taken = rw (number_is, aircraft_is, (count_back n l m).1) (aircraft_back w b e f).0

  back : record9 whole ≡ record { count = n; type = w; wake = b }
  unfolding tail
  back = rw (number_is, aircraft_is, (count_back n l m).2, (aircraft_back w b e f).1, (aircraft_back w b e f).2)

  tidy_whole : tidy whole ≡ true
  unfolding whole tail
  tidy_whole =
      let t = typed w e in
      let z : all tidy_byte (w ++ (47 ∷ (b ∷ []))) ≡ true
      = all_append tidy_byte w (47 ∷ (b ∷ [])) (all_imp sign tidy_byte sign_tidy w t.signs) (rw (oblique_tidy, letter_tidy b (wake_letter b f))) in
      tidy_one whole
      (tidy_word_lem tidy_byte (λ x h. h) whole (simp length-append (omega arith))
      (all_append tidy_byte (spell_count n) (w ++ (47 ∷ (b ∷ []))) (all_imp digit tidy_byte digit_tidy (spell_count n) (count_back n l m).0) z))

-- the parts of a valid record
record Valid (r : Field9) : Type 0 where
  least : 1 ≤ r.count
  most : r.count ≤ 99
  type_fits_lem : type_fits r.type ≡ true
  wake_fits_lem : wake_fits r.wake ≡ true

parts : (r : Field9) → valid9 r ≡ true → Valid r
unfolding valid9
parts r v =
    let g = both (leb 1 r.count) _ v in
    let h = both (leb r.count 99) _ g.1 in
    let k = both (type_fits r.type) (wake_fits r.wake) h.1 in
    record { least = leb-true 1 r.count g.0; most = leb-true r.count 99 h.0; type_fits_lem = k.0; wake_fits_lem = k.1 }

facts : Facts field9
unfolding whole tail
facts =
    record {
      spelled = spelled;
      held = held;
      taken = λ r v. let p = parts r v in taken r.count r.type r.wake p.least p.most p.type_fits_lem p.wake_fits_lem;
      back = λ r v. let p = parts r v in back r.count r.type r.wake p.least p.most p.type_fits_lem p.wake_fits_lem;
      tidied = λ s e.
          let r = record9 s in
          let p = parts r (held s e) in
          let t : tidy (spell9 r) ≡ true = tidy_whole r.count r.type r.wake p.least p.most p.type_fits_lem p.wake_fits_lem in
          ap tidy (sym (spelled s e)) ∙ t;
    }

pub field9_laws : Laws field9
field9_laws = plain field9 (λ r. refl) facts

-- what `aircraft_type` gives of a content is its record's
pub type_law : (s : List ℕ) → (record9 s).type ≡ before 47 (aircraft s)
type_law s = refl
