-- Field 3: the type; then optionally a number, and optionally a second. Assumes nothing.
use Rattle.std.specs.Prelude.{ℕ, ◌+◌, ◌-◌, ◌≡◌, refl, Bool, true, false, ◌&&◌, ◌||◌, cond, List, [], ◌∷◌, ◌++◌, leb, ltb, length, take, drop}
use Rattle.alphabet.specs.Text.{bytes}
use Rattle.alphabet.specs.Alphabet.{letter, digit}
use Rattle.text.specs.Words.{Word, split, holds, before, behind, all, null, elem}
use Rattle.shape.specs.Numbers.{digits, value}
use Rattle.shape.specs.Field.{Field}
use Rattle.head.specs.Runs.{lead}

-- THE RECORD AND ITS SPELLING

-- a message's number: 1 to 4 letters, `/`, 1 to 4 letters, 3 digits
pub record Number : Type 0 where
  pub sender : Word
  pub receiver : Word
  pub serial : ℕ

pub record Field3 : Type 0 where
  pub type : Word
  pub numbers : List Number

abbrev pub spell_number : Number → Word
spell_number n = n.sender ++ (47 ∷ (n.receiver ++ digits 3 n.serial))

abbrev pub spell_numbers : List Number → Word
spell_numbers [] = []
spell_numbers (n ∷ ns) = spell_number n ++ spell_numbers ns

abbrev pub spell3 : Field3 → List ℕ
spell3 r = r.type ++ spell_numbers r.numbers

-- WHICH RECORDS

-- the standard types: those that are read, and those that are not
unfoldable pub types : List Word
types = split 32 (bytes "FPL CHG CNL DLA DEP ARR RQP RQS SPL ALR RCF CPL EST CDN ACP LAM")

-- 1 to 4 letters
abbrev pub unit : Word → Bool
unit w = leb 1 (length w) && (leb (length w) 4 && all letter w)

abbrev pub valid_number : Number → Bool
valid_number n = unit n.sender && (unit n.receiver && ltb n.serial 1000)

unfoldable pub valid3 : Field3 → Bool
valid3 r = elem r.type types && (leb (length r.numbers) 2 && all valid_number r.numbers)

-- THE READING: a number ends with its digits, three from the first one on

abbrev pub first : Word → Word
first w = take (lead false w + 3) w

abbrev pub others : Word → Word
others w = drop (lead false w + 3) w

-- the last three bytes, and those before them
abbrev pub serial : Word → Word
serial w = drop (length w - 3) w

abbrev pub receiver : Word → Word
receiver w = take (length w - 3) w

unfoldable pub number_fits : Word → Bool
number_fits w =
    holds 47 w
    && (unit (before 47 w)
    && (unit (receiver (behind 47 w))
    && all digit (serial (behind 47 w))))

abbrev pub number_of : Word → Number
number_of w = record { sender = before 47 w; receiver = receiver (behind 47 w); serial = value (serial (behind 47 w)) }

unfoldable pub numbers_fit : Word → Bool
numbers_fit w = null w || (number_fits (first w) && (null (others w) || number_fits (others w)))

abbrev pub numbers_of : Word → List Number
numbers_of w = cond (null w) [] (number_of (first w) ∷ cond (null (others w)) [] (number_of (others w) ∷ []))

unfoldable pub fits3 : List ℕ → Bool
fits3 s = elem (take 3 s) types && numbers_fit (drop 3 s)

abbrev pub record3 : List ℕ → Field3
record3 s = record { type = take 3 s; numbers = numbers_of (drop 3 s) }

abbrev pub field3 : Field
field3 = record { Record = Field3; valid = valid3; spell = spell3; fits = fits3; record_of = record3; canonical = λ r. r }

-- EXAMPLES, computed

fitting : (fits3 (bytes "CNL") ≡ true) × (fits3 (bytes "CHGA/F016A/F014") ≡ true) × (fits3 (bytes "CNLF/B127F/B055") ≡ true)
    × (fits3 (bytes "FPLABCD/ABCD000") ≡ true)
unfolding fits3 numbers_fit number_fits types
fitting = (refl, refl, refl, refl)

not_fitting : (fits3 (bytes "XYZ") ≡ false) × (fits3 (bytes "CN") ≡ false) × (fits3 (bytes "CHG A/F016") ≡ false) × (fits3 (bytes "CHGA/F01") ≡ false)
    × (fits3 (bytes "CHGA/F0160") ≡ false) × (fits3 (bytes "CHGA/F016A/F014A/F013") ≡ false)
    × (fits3 (bytes "CHGABCDE/F016") ≡ false) × (fits3 (bytes "CHG/F016") ≡ false)
unfolding fits3 numbers_fit number_fits types
not_fitting = (refl, refl, refl, refl, refl, refl, refl, refl)

sample : record3 (bytes "CHGA/F016A/F014")
    ≡ record {
      type = bytes "CHG";
      numbers =
          record { sender = bytes "A"; receiver = bytes "F"; serial = 16 }
          ∷ (record { sender = bytes "A"; receiver = bytes "F"; serial = 14 } ∷ []);
    }
sample = refl
