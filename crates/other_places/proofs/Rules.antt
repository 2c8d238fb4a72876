-- The places of words under a key are right, for each rule. Assumes nothing.
use Prim.Native.Nat.{ℕ, zero, suc, ◌+◌, ◌-◌, ◌≤◌}
use mathlib.Core.Path.{◌≡◌, refl, sym, ap, ◌∙◌}
use mathlib.Core.Bool.{Bool, true, false, ◌&&◌, ◌||◌, false≢true, or-true}
use mathlib.Core.List.{List, [], ◌∷◌}
use native.Mathlib.Omega.{arith}
use native.Mathlib.Nat.{not-suc-le-zero}
use lib.Dec.{leb, eqb, eqb-suc-suc}
use lib.ListN.{length, drop}
use borrow.Author.Tests.{leb-true, le-leb, eqb-true, eqb-false, ne_eqb}
use Rattle.alphabet.specs.Text.{bytes}
use Rattle.alphabet.specs.Alphabet.{letter, sign, text, in_alphabet, white, one_of}
use Rattle.text.specs.Words.{Word, all, null}
use Rattle.text.proofs.Tests.{both, and_false}
use Rattle.text.proofs.Tidy.{digit_sign}
use Rattle.shape.specs.Shape.{fits, wide, letters}
use Rattle.shape.specs.Time.{time_fits, elapsed_hours, hours_minutes}
use Rattle.shape.proofs.Index.{fits_lengths}
use Rattle.shape.proofs.Exact.{fits_all}
use Rattle.places.specs.Place.{IsPlace}
use Rattle.places.specs.Parts.{no_more, fixed_fits, fixed_place, time_place}
use Rattle.places.proofs.Place.{place_of_language, no_place, either_place}
use Rattle.places.proofs.Leaves.{nil_place}
use Rattle.places.proofs.Fixed.{fixed_place_lem, time_place_lem}
use Rattle.places.proofs.Texts.{text_place}
use Rattle.places.proofs.Given.{iff}
use Rattle.entries.proofs.Entries.{any_label_place}
use Rattle.code_places.specs.Codes.{some_codes, codes_place}
use Rattle.code_places.proofs.Codes.{codes_place_lem}
use Rattle.other.specs.declared.Rule.{Rule}
use Rattle.other.specs.declared.Rule.TheVariants.{Status, Approvals, Day, Timed, Selcal, Address, Free}
use Rattle.other.specs.Rules.{statuses, approvals, approved, date, days_in, hexadecimal, timed, word_fits}
use Rattle.other.proofs.Texts.{approved_bytes}
use Rattle.other_places.specs.Places.{signs_time, rule_place}
use Rattle.other_places.proofs.Dates.{date_right}

-- SO MANY BYTES OF A SET, and nothing more

sized_is : (p : ℕ → Bool) (n : ℕ) (w : Word) → fixed_fits p n null w ≡ (eqb (length w) n && all p w)
sized_is p zero [] = refl
sized_is p zero (b ∷ w) = sym (rw (ne_eqb (suc (length w)) 0 (omega arith)))
sized_is p (suc n) [] = sym (rw (ne_eqb 0 (suc n) (omega arith)))
sized_is p (suc n) (b ∷ w) = rw (eqb-suc-suc (length w) n) (go (p b) (eqb (length w) n) (sized_is p n w))
  where
    go : (x y : Bool) → fixed_fits p n null w ≡ (y && all p w) → (x && fixed_fits p n null w) ≡ (y && (x && all p w))
    go true y e = e
    go false y e = sym (and_false y false refl)

sized_right : (p : ℕ → Bool) (n b : ℕ) → p b ≡ true → (s : List ℕ) → IsPlace (λ w. eqb (length w) n && all p w) s (fixed_place p n no_more s)
sized_right p n b e s =
    place_of_language (fixed_fits p n null) (λ w. eqb (length w) n && all p w) (sized_is p n) s (fixed_place p n no_more s)
    (fixed_place_lem p null no_more nil_place [] refl b e n s)

hex_zero : one_of 48 hexadecimal ≡ true
unfolding hexadecimal
hex_zero = refl

-- SIGNS AND A TIME

abbrev elapsed : Word → Bool
elapsed w = time_fits elapsed_hours w

midnight : elapsed (bytes "0000") ≡ true
unfolding time_fits
midnight = refl

time_four : (w : Word) → elapsed w ≡ true → length w ≡ 4
unfolding time_fits
time_four w e = fits_lengths (wide hours_minutes) w (both (fits (wide hours_minutes) w) _ e).0

time_signs : (w : Word) → elapsed w ≡ true → all sign w ≡ true
unfolding time_fits
time_signs w e = fits_all sign digit_sign (wide hours_minutes) w refl (both (fits (wide hours_minutes) w) _ e).0

abbrev some_signs : ℕ → Word → Bool
some_signs zero w = false
some_signs (suc n) w = fixed_fits sign (suc (suc n)) elapsed w || some_signs n w

some_right : (n : ℕ) (s : List ℕ) → IsPlace (some_signs n) s (signs_time n s)
some_right zero s = no_place s
some_right (suc n) s =
    either_place (fixed_fits sign (suc (suc n)) elapsed) (some_signs n) s (fixed_place sign (suc (suc n)) (time_place elapsed_hours) s) (signs_time n s)
    (fixed_place_lem sign elapsed (time_place elapsed_hours) (time_place_lem elapsed_hours) (bytes "0000") midnight 65 refl (suc (suc n)) s) (some_right n s)

record Signed (m : ℕ) (w : Word) : Type 0 where
  long : length w ≡ m + 4
  signs : all sign w ≡ true
  last : elapsed (drop m w) ≡ true

signed : (m : ℕ) (w : Word) → fixed_fits sign m elapsed w ≡ true → Signed m w
signed zero w e = record { long = omega (arith, time_four w e); signs = time_signs w e; last = e }
signed (suc m) [] e = absurd (false≢true e)
signed (suc m) (b ∷ w) e =
    let q = both (sign b) (fixed_fits sign m elapsed w) e in
    let h = signed m w q.1 in
    record { long = omega (arith, h.long); signs = rw (q.0, h.signs); last = h.last }

fixed : (m : ℕ) (w : Word) → m ≤ length w → all sign w ≡ true → elapsed (drop m w) ≡ true → fixed_fits sign m elapsed w ≡ true
fixed zero w h e l = l
fixed (suc m) [] h e l = absurd (not-suc-le-zero h)
fixed (suc m) (b ∷ w) h e l = let q = both (sign b) (all sign w) e in rw (q.0, fixed m w (omega arith) q.1 l)

one_signs : (n : ℕ) (w : Word) → some_signs n w ≡ true → (m : ℕ) × (2 ≤ m) × (m ≤ n + 1) × Signed m w
one_signs zero w e = absurd (false≢true e)
one_signs (suc n) w e = go (fixed_fits sign (suc (suc n)) elapsed w) refl e (one_signs n w)
  where
    go : (x : Bool) → fixed_fits sign (suc (suc n)) elapsed w ≡ x → (x || some_signs n w) ≡ true
        → (some_signs n w ≡ true → (m : ℕ) × (2 ≤ m) × (m ≤ n + 1) × Signed m w) → (m : ℕ) × (2 ≤ m) × (m ≤ suc n + 1) × Signed m w
    go true q h ih = (suc (suc n), omega arith, omega arith, signed (suc (suc n)) w q)
    go false q h ih = let r = ih h in (r.0, r.1, omega (arith, r.2), r.3)

among : (n m : ℕ) (w : Word) → 2 ≤ m → m ≤ n + 1 → fixed_fits sign m elapsed w ≡ true → some_signs n w ≡ true
among zero m w l h e = absurd (omega arith)
among (suc n) m w l h e = go (eqb m (suc (suc n))) refl (among n m w l)
  where
    go : (x : Bool) → eqb m (suc (suc n)) ≡ x → (m ≤ n + 1 → fixed_fits sign m elapsed w ≡ true → some_signs n w ≡ true)
        → (fixed_fits sign (suc (suc n)) elapsed w || some_signs n w) ≡ true
    go true q ih = rw (ap (λ (k : ℕ). fixed_fits sign k elapsed w) (sym (eqb-true m (suc (suc n)) q)) ∙ e)
    go false q ih = let d = eqb-false m (suc (suc n)) q in rw (ih (omega arith) e) (or-true (fixed_fits sign (suc (suc n)) elapsed w))

timed_is : (w : Word) → some_signs 10 w ≡ timed w
unfolding timed
timed_is w = iff (some_signs 10 w) (leb 6 (length w) && (leb (length w) 15 && (all sign w && elapsed (drop (length w - 4) w)))) to from
  where
    to : some_signs 10 w ≡ true → (leb 6 (length w) && (leb (length w) 15 && (all sign w && elapsed (drop (length w - 4) w)))) ≡ true
    to e =
        let r = one_signs 10 w e in
        let l = r.3.long in
        let z : length w - 4 ≡ r.0 = omega (arith, r.1) in
        rw (le-leb 6 (length w) (omega (arith, r.1)), le-leb (length w) 15 (omega (arith, r.2)), r.3.signs, z) r.3.last

    from : (leb 6 (length w) && (leb (length w) 15 && (all sign w && elapsed (drop (length w - 4) w)))) ≡ true → some_signs 10 w ≡ true
    from e =
        let a = both (leb 6 (length w)) _ e in
        let b = both (leb (length w) 15) _ a.1 in
        let c = both (all sign w) (elapsed (drop (length w - 4) w)) b.1 in
        let l : 6 ≤ length w = leb-true 6 (length w) a.0 in
        let m : length w ≤ 15 = leb-true (length w) 15 b.0 in
        among 10 (length w - 4) w (omega arith) (omega arith) (fixed (length w - 4) w (omega arith) c.0 c.1)

timed_right : (s : List ℕ) → IsPlace timed s (signs_time 10 s)
timed_right s = place_of_language (some_signs 10) timed timed_is s (signs_time 10 s) (some_right 10 s)

-- CODES

approvals_right : (s : List ℕ) → IsPlace approved s (codes_place approvals 16 s)
approvals_right s = place_of_language (some_codes approvals 16) approved approved_bytes s (codes_place approvals 16 s) (codes_place_lem approvals 16 s)

-- EACH RULE

pub rule_right : (r : Rule) (s : List ℕ) → IsPlace (word_fits r) s (rule_place r s)
rule_right Status s = any_label_place statuses s
rule_right Approvals s = approvals_right s
rule_right Day s = date_right s
rule_right Timed s = timed_right s
rule_right Selcal s = sized_right letter 4 65 refl s
rule_right Address s = sized_right (λ b. one_of b hexadecimal) 6 48 hex_zero s
rule_right Free s = text_place s

-- and a word of each
pub rule_one : (r : Rule) → (w : Word) × (word_fits r w ≡ true)
unfolding statuses approved approvals date days_in letters timed time_fits hexadecimal text in_alphabet white
rule_one Status = (bytes "HOSP", refl)
rule_one Approvals = (bytes "A1", refl)
rule_one Day = (bytes "000101", refl)
rule_one Timed = (bytes "AA0000", refl)
rule_one Selcal = (bytes "AAAA", refl)
rule_one Address = (bytes "000000", refl)
rule_one Free = (bytes "A", refl)
