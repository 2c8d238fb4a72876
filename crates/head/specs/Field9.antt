-- Field 9: optionally how many, the type of aircraft, and the wake category. Assumes nothing.
use Rattle.std.specs.Prelude.{ℕ, ◌≡◌, refl, Bool, true, false, ◌&&◌, cond, List, [], ◌∷◌, ◌++◌, leb, ltb, eqb, length, take, drop, get_or}
use Rattle.alphabet.specs.Text.{bytes}
use Rattle.alphabet.specs.Alphabet.{one_of, letter, sign}
use Rattle.text.specs.Words.{Word, holds, before, behind, all}
use Rattle.shape.specs.Numbers.{digits, value}
use Rattle.shape.specs.Field.{Field}
use Rattle.head.specs.Runs.{lead}

-- THE RECORD AND ITS SPELLING

-- how many aircraft: 1 where no number is sent
pub record Field9 : Type 0 where
  pub count : ℕ
  pub type : Word
  pub wake : ℕ

-- 1 is not written, and nothing has a leading zero
abbrev pub spell_count : ℕ → Word
spell_count n = cond (ltb n 2) [] (cond (ltb n 10) (digits 1 n) (digits 2 n))

abbrev pub spell9 : Field9 → List ℕ
spell9 r = spell_count r.count ++ (r.type ++ (47 ∷ (r.wake ∷ [])))

-- WHICH RECORDS

-- 2 to 4 signs, the first a letter
abbrev pub type_fits : Word → Bool
type_fits w = leb 2 (length w) && (leb (length w) 4 && (letter (get_or w 0 0) && all sign w))

abbrev pub wake_fits : ℕ → Bool
wake_fits b = one_of b (bytes "HML")

unfoldable pub valid9 : Field9 → Bool
valid9 r = leb 1 r.count && (leb r.count 99 && (type_fits r.type && wake_fits r.wake))

-- THE READING: the digits at the front, what stands before the oblique, what stands behind it

abbrev pub number : List ℕ → Word
number s = take (lead true s) s

abbrev pub aircraft : List ℕ → List ℕ
aircraft s = drop (lead true s) s

-- the count's rule on the digits as sent: none, or 2 to 99 without leading zero. They are the spellings of 1 to 99: `spelled_count` and `count_back`
-- in proofs/Field9.antt.
unfoldable pub count_fits : Word → Bool
count_fits [] = true
count_fits (a ∷ []) = leb 50 a
count_fits (a ∷ (b ∷ [])) = leb 49 a
count_fits (a ∷ (b ∷ (c ∷ w))) = false

abbrev pub count_of : Word → ℕ
count_of [] = 1
count_of (a ∷ w) = value (a ∷ w)

abbrev pub wake_of : Word → ℕ
wake_of w = get_or w 0 0

abbrev pub is_wake : Word → Bool
is_wake w = eqb (length w) 1 && wake_fits (wake_of w)

unfoldable pub aircraft_fits : List ℕ → Bool
aircraft_fits t = holds 47 t && (type_fits (before 47 t) && is_wake (behind 47 t))

unfoldable pub fits9 : List ℕ → Bool
fits9 s = count_fits (number s) && aircraft_fits (aircraft s)

abbrev pub record9 : List ℕ → Field9
record9 s = record { count = count_of (number s); type = before 47 (aircraft s); wake = wake_of (behind 47 (aircraft s)) }

abbrev pub field9 : Field
field9 = record { Record = Field9; valid = valid9; spell = spell9; fits = fits9; record_of = record9; canonical = λ r. r }

-- EXAMPLES, computed

fitting : (fits9 (bytes "2FK27/M") ≡ true) × (fits9 (bytes "B738/M") ≡ true) × (fits9 (bytes "99C5/H") ≡ true)
    × (fits9 (bytes "3ZZZZ/L") ≡ true) × (fits9 (bytes "10B7/L") ≡ true)
unfolding fits9 count_fits aircraft_fits
fitting = (refl, refl, refl, refl, refl)

not_fitting : (fits9 (bytes "1B707/M") ≡ false) × (fits9 (bytes "02B707/M") ≡ false) × (fits9 (bytes "100B70/M") ≡ false) × (fits9 (bytes "B/M") ≡ false)
    × (fits9 (bytes "B7070/M") ≡ false) × (fits9 (bytes "B707/J") ≡ false) × (fits9 (bytes "B707M") ≡ false)
    × (fits9 (bytes "B707/MM") ≡ false) × (fits9 (bytes "") ≡ false)
unfolding fits9 count_fits aircraft_fits
not_fitting = (refl, refl, refl, refl, refl, refl, refl, refl, refl)

sample : record9 (bytes "2FK27/M") ≡ record { count = 2; type = bytes "FK27"; wake = 77 }
sample = refl
