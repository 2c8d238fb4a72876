-- Field 3: contents that fit and valid records determine one another. Assumes nothing.
use Prim.Native.Nat.{ℕ, suc, ◌+◌, ◌-◌, ◌<◌, ◌≤◌}
use mathlib.Core.Path.{◌≡◌, refl, sym, ap, ap₂, ◌∙◌}
use mathlib.Core.Bool.{Bool, true, false, ◌&&◌, ◌||◌, not, cond, beq, false≢true}
use mathlib.Core.List.{List, [], ◌∷◌, ◌++◌, append-nil, append_assoc}
use native.Mathlib.Omega.{arith}
use lib.Dec.{leb, ltb}
use lib.ListN.{length, take, drop, take-append-drop, length-append, length-take, length-drop}
use lib.Seq.{take_at, drop_at, take-append_seam, drop-append_seam}
use borrow.Author.Tests.{leb-true, ltb-true, lt-ltb, not-true}
use Rattle.alphabet.specs.Alphabet.{letter, digit}
use Rattle.text.specs.Words.{Word, holds, before, behind, all, null, free, elem, tidy_byte, tidy}
use Rattle.text.proofs.Tests.{both, and_both, all_imp, all_append, all-free, some_length, null-nil}
use Rattle.text.proofs.Joined.{seam, holds_seam, before_seam, behind_seam}
use Rattle.text.proofs.Tidy.{letter_tidy, digit_tidy, oblique_tidy, tidy_word_lem, tidy_one}
use Rattle.shape.specs.Numbers.{digits, value}
use Rattle.shape.specs.Field.{Laws}
use Rattle.shape.proofs.Numbers.{value_below, digits_value, digits_length, value_digits, digits_digits}
use Rattle.shape.proofs.Fields.{Facts, plain}
use Rattle.head.specs.Runs.{lead}
use Rattle.head.specs.Field3.{Number, Field3, spell_number, spell_numbers, spell3, types, unit, valid_number, valid3, first, others}
use Rattle.head.specs.Field3.{serial, receiver, number_fits, number_of, numbers_fit, numbers_of, fits3, record3, field3}
use Rattle.head.proofs.Laws.{within, ends, lead_seam, letter_no_digit, three_letters, type_letters}

-- A UNIT

pub record Unit-of (w : Word) : Type 0 where
  pub least : 1 ≤ length w
  pub letters : all letter w ≡ true
  pub clear : free 47 w ≡ true
  pub run : within false w ≡ true

no_digit : (b : ℕ) → letter b ≡ true → beq (digit b) false ≡ true
no_digit b e = go (digit b) (letter_no_digit b e)
  where
    go : (t : Bool) → not (beq t true) ≡ true → beq t false ≡ true
    go true h = absurd (false≢true h)
    go false h = refl

pub unit_of : (w : Word) → unit w ≡ true → Unit-of w
unit_of w e =
    let g = both (leb 1 (length w)) _ e in
    let h = both (leb (length w) 4) (all letter w) g.1 in
    record {
      least = leb-true 1 (length w) g.0;
      letters = h.1;
      clear = all-free letter 47 refl w h.1;
      run = all_imp letter (λ b. beq (digit b) false) no_digit w h.1;
    }

-- ONE NUMBER

pub record Number-of (w : Word) : Type 0 where
  pub oblique : holds 47 w ≡ true
  pub sender_fits : unit (before 47 w) ≡ true
  pub receiver_fits : unit (receiver (behind 47 w)) ≡ true
  pub serial_digits : all digit (serial (behind 47 w)) ≡ true
  pub serial_three : length (serial (behind 47 w)) ≡ 3

pub number_of_lem : (w : Word) → number_fits w ≡ true → Number-of w
unfolding number_fits
number_of_lem w e =
    let f = behind 47 w in
    let g = both (holds 47 w) _ e in
    let h = both (unit (before 47 w)) _ g.1 in
    let k = both (unit (receiver f)) (all digit (serial f)) h.1 in
    let l = (unit_of (receiver f) k.0).least in
    let m : 1 ≤ length f - 3 = omega (arith, length-take (length f - 3) f) in
    let three : length f - (length f - 3) ≡ 3 = omega arith in
    record {
      oblique = g.0;
      sender_fits = h.0;
      receiver_fits = k.0;
      serial_digits = k.1;
      serial_three = length-drop (length f - 3) f ∙ three;
    }

spelled_number : (w : Word) → number_fits w ≡ true → (spell_number (number_of w) ≡ w) × (valid_number (number_of w) ≡ true)
spelled_number w e =
    let p = number_of_lem w e in
    let f = behind 47 w in
    let d : digits 3 (value (serial f)) ≡ serial f
    = ap (λ (k : ℕ). digits k (value (serial f))) (sym p.serial_three) ∙ digits_value (serial f) p.serial_digits in
    let b : value (serial f) < 1000 = rw p.serial_three at (value_below (serial f) p.serial_digits) in (
      rw (d, take-append-drop (length f - 3) f) (seam 47 w p.oblique),
      rw (p.sender_fits, p.receiver_fits) (lt-ltb (value (serial f)) 1000 b),
    )

-- what a number is spelled as: a run without digits, and three digits
module _ (n : Number) (v : valid_number n ≡ true) where
  h : (unit n.sender ≡ true) × ((unit n.receiver && ltb n.serial 1000) ≡ true)
  h = both (unit n.sender) _ v

  k : (unit n.receiver ≡ true) × (ltb n.serial 1000 ≡ true)
  k = both (unit n.receiver) (ltb n.serial 1000) h.1

  few : n.serial < 1000
  few = ltb-true n.serial 1000 k.1

  ds : Word
  ds = digits 3 n.serial

  run_part : Word
  run_part = n.sender ++ (47 ∷ n.receiver)

  apart : spell_number n ≡ run_part ++ ds
  unfolding run_part ds
  apart = sym (append_assoc n.sender (47 ∷ n.receiver) (digits 3 n.serial))

  run_is : within false run_part ≡ true
  unfolding run_part
  run_is = all_append _ n.sender (47 ∷ n.receiver) (unit_of n.sender h.0).run (unit_of n.receiver k.0).run

  long : length (spell_number n) ≡ length run_part + 3
  unfolding ds
  long = ap length apart ∙ length-append run_part (digits 3 n.serial) ∙ ap (λ (x : ℕ). length run_part + x) (digits_length 3 n.serial)

  -- it ends three digits behind the run
  lead_is : (rest : Word) → lead false (spell_number n ++ rest) ≡ length run_part
  unfolding ds
  lead_is rest =
      let d = digits_digits 3 n.serial few in
      let z : ends false (digits 3 n.serial ++ rest) ≡ true = first_digit (digits 3 n.serial) rest d (omega (arith, digits_length 3 n.serial)) in
      ap (lead false) (ap (λ (w : Word). w ++ rest) apart ∙ append_assoc run_part (digits 3 n.serial) rest)
      ∙ lead_seam false run_part (digits 3 n.serial ++ rest) run_is z
    where
      first_digit : (u f : Word) → all digit u ≡ true → 0 < length u → ends false (u ++ f) ≡ true
      first_digit [] f d l = absurd (omega arith)
      first_digit (b ∷ u) f d l = rw (both (digit b) (all digit u) d).0

  first_is : (rest : Word) → first (spell_number n ++ rest) ≡ spell_number n
  first_is rest = rw (lead_is rest, ← long) (take-append_seam (spell_number n) rest)

  others_is : (rest : Word) → others (spell_number n ++ rest) ≡ rest
  others_is rest = rw (lead_is rest, ← long) (drop-append_seam (spell_number n) rest)

  number_back : (number_fits (spell_number n) ≡ true) × (number_of (spell_number n) ≡ n)
  unfolding number_fits
  number_back =
      let c = (unit_of n.sender h.0).clear in
      let f = n.receiver ++ digits 3 n.serial in
      let x = before_seam 47 n.sender f c in
      let y = behind_seam 47 n.sender f c in
      let l : length f - 3 ≡ length n.receiver = omega (arith, length-append n.receiver (digits 3 n.serial), digits_length 3 n.serial) in
      let t = take-append_seam n.receiver (digits 3 n.serial) in
      let d = drop-append_seam n.receiver (digits 3 n.serial) in (
        rw (holds_seam 47 n.sender f c, x, y, l, t, d, h.0, k.0) (digits_digits 3 n.serial few),
        rw (x, y, l, t, d, value_digits 3 n.serial few),
      )

  tidy_number : all tidy_byte (spell_number n) ≡ true
  tidy_number =
      all_append tidy_byte n.sender _ (all_imp letter tidy_byte letter_tidy n.sender (unit_of n.sender h.0).letters)
      (rw oblique_tidy
      (all_append tidy_byte n.receiver (digits 3 n.serial) (all_imp letter tidy_byte letter_tidy n.receiver (unit_of n.receiver k.0).letters)
      (all_imp digit tidy_byte digit_tidy (digits 3 n.serial) (digits_digits 3 n.serial few))))

  some_bytes : 0 < length (spell_number n)
  some_bytes = omega (arith, long)

-- NONE, ONE OR TWO

abbrev few_numbers : List Number → Bool
few_numbers ns = leb (length ns) 2 && all valid_number ns

spelled_numbers : (w : Word) → numbers_fit w ≡ true → (spell_numbers (numbers_of w) ≡ w) × (few_numbers (numbers_of w) ≡ true)
unfolding numbers_fit
spelled_numbers w e = go (null w) refl e
  where
    more : number_fits (first w) ≡ true → (b : Bool) → null (others w) ≡ b → (b || number_fits (others w)) ≡ true
        → (spell_numbers (number_of (first w) ∷ cond b [] (number_of (others w) ∷ [])) ≡ w)
        × (few_numbers (number_of (first w) ∷ cond b [] (number_of (others w) ∷ [])) ≡ true)
    more f true p q =
        let x = spelled_number (first w) f in (
          ap₂ (λ (u v : Word). u ++ v) x.0 (sym (null-nil (others w) p)) ∙ take-append-drop (lead false w + 3) w,
          rw x.1,
        )
    more f false p q =
        let x = spelled_number (first w) f in
        let y = spelled_number (others w) q in (
          ap₂ (λ (u v : Word). u ++ v) x.0 (append-nil (spell_number (number_of (others w))) ∙ y.0) ∙ take-append-drop (lead false w + 3) w,
          rw (x.1, y.1),
        )

    go : (b : Bool) → null w ≡ b → (b || (number_fits (first w) && (null (others w) || number_fits (others w)))) ≡ true
        → (spell_numbers (cond b [] (number_of (first w) ∷ cond (null (others w)) [] (number_of (others w) ∷ []))) ≡ w)
        × (few_numbers (cond b [] (number_of (first w) ∷ cond (null (others w)) [] (number_of (others w) ∷ []))) ≡ true)
    go true p q = (sym (null-nil w p), refl)
    go false p q = let h = both (number_fits (first w)) _ q in more h.0 (null (others w)) refl h.1

not_null : (w : Word) → 0 < length w → null w ≡ false
not_null w l = not-true (null w) (some_length w l)

numbers_back : (ns : List Number) → few_numbers ns ≡ true → (numbers_fit (spell_numbers ns) ≡ true) × (numbers_of (spell_numbers ns) ≡ ns)
unfolding numbers_fit
numbers_back [] e = (refl, refl)
numbers_back (n ∷ []) e =
    let v = (both (valid_number n) true e).0 in
    let z = not_null (spell_number n ++ []) (omega (arith, some_bytes n v, length-append (spell_number n) [])) in
    let b = number_back n v in
    (rw (z, first_is n v [], others_is n v [], b.0), rw (z, first_is n v [], others_is n v [], b.1))
numbers_back (n ∷ (m ∷ [])) e =
    let h = both (valid_number n) _ e in
    let v = h.0 in
    let u = (both (valid_number m) true h.1).0 in
    let rest = spell_number m ++ [] in
    let z = not_null (spell_number n ++ rest) (omega (arith, some_bytes n v, length-append (spell_number n) rest)) in
    let y = not_null rest (omega (arith, some_bytes m u, length-append (spell_number m) [])) in
    let b = number_back n v in
    let d = number_back m u in
    let r = append-nil (spell_number m) in
    (rw (z, first_is n v rest, others_is n v rest, y, b.0, r) d.0, rw (z, first_is n v rest, others_is n v rest, y, b.1, r, d.1))
numbers_back (n ∷ (m ∷ (l ∷ ns))) e =
    absurd (omega (arith, leb-true (suc (suc (suc (length ns)))) 2 (both (leb (suc (suc (suc (length ns)))) 2) _ e).0))

tidy_numbers : (ns : List Number) → all valid_number ns ≡ true → all tidy_byte (spell_numbers ns) ≡ true
tidy_numbers [] e = refl
tidy_numbers (n ∷ ns) e =
    let h = both (valid_number n) (all valid_number ns) e in
    all_append tidy_byte (spell_number n) (spell_numbers ns) (tidy_number n h.0) (tidy_numbers ns h.1)

-- THE WHOLE

spelled : (s : List ℕ) → fits3 s ≡ true → spell3 (record3 s) ≡ s
unfolding fits3
spelled s e =
    let h = both (elem (take 3 s) types) (numbers_fit (drop 3 s)) e in
    ap (λ (w : Word). take 3 s ++ w) (spelled_numbers (drop 3 s) h.1).0 ∙ take-append-drop 3 s

held : (s : List ℕ) → fits3 s ≡ true → valid3 (record3 s) ≡ true
unfolding fits3 valid3
held s e =
    let h = both (elem (take 3 s) types) (numbers_fit (drop 3 s)) e in
    and_both (elem (take 3 s) types) (few_numbers (numbers_of (drop 3 s))) h.0 (spelled_numbers (drop 3 s) h.1).1

module _ (r : Field3) (v : valid3 r ≡ true) where
  vs : (elem r.type types ≡ true) × (few_numbers r.numbers ≡ true)
  unfolding valid3
  vs = both (elem r.type types) (few_numbers r.numbers) v

  three : length r.type ≡ 3
  three = three_letters r.type vs.0

  front : take 3 (spell3 r) ≡ r.type
  front = take_at r.type (spell_numbers r.numbers) 3 three

  rest : drop 3 (spell3 r) ≡ spell_numbers r.numbers
  rest = drop_at r.type (spell_numbers r.numbers) 3 three

  taken : fits3 (spell3 r) ≡ true
  unfolding fits3
  taken =
      and_both (elem (take 3 (spell3 r)) types) (numbers_fit (drop 3 (spell3 r)))
      (ap (λ (w : Word). elem w types) front ∙ vs.0)
      (ap numbers_fit rest ∙ (numbers_back r.numbers vs.1).0)

  back : record3 (spell3 r) ≡ r
  back = rw (front, rest, (numbers_back r.numbers vs.1).1)

  tidy_spelling : tidy (spell3 r) ≡ true
  tidy_spelling =
      tidy_one (spell3 r)
      (tidy_word_lem tidy_byte (λ x h. h) (spell3 r) (simp length-append (omega (arith, three)))
      (all_append tidy_byte r.type (spell_numbers r.numbers)
      (all_imp letter tidy_byte letter_tidy r.type (type_letters r.type vs.0))
      (tidy_numbers r.numbers (both (leb (length r.numbers) 2) _ vs.1).1)))

facts : Facts field3
facts =
    record {
      spelled = spelled;
      held = held;
      taken = taken;
      back = back;
      tidied = λ s e. ap tidy (sym (spelled s e)) ∙ tidy_spelling (record3 s) (held s e);
    }

pub field3_laws : Laws field3
field3_laws = plain field3 (λ r. refl) facts
