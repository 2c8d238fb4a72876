-- Field 7: the identification, and optionally the code. Assumes nothing.
use Rattle.std.specs.Prelude.{ℕ, ◌≡◌, refl, Bool, true, false, ◌&&◌, cond, List, [], ◌++◌, leb, length, drop}
use Rattle.std.proofs.Math.Option.{Option, none, some}
use Rattle.alphabet.specs.Text.{bytes}
use Rattle.alphabet.specs.Alphabet.{sign}
use Rattle.text.specs.Words.{Word, holds, before, behind, all}
use Rattle.shape.specs.Shape.{fits, letters}
use Rattle.shape.specs.Field.{Field}

-- THE RECORD AND ITS SPELLING

-- the code is its four digits
pub record Field7 : Type 0 where
  pub identification : Word
  pub code : Option Word

abbrev pub spell_code : Option Word → Word
spell_code none = []
spell_code (some c) = bytes "/A" ++ c

abbrev pub spell7 : Field7 → List ℕ
spell7 r = r.identification ++ spell_code r.code

-- WHICH RECORDS

-- 2 to 7 signs
abbrev pub identification_fits : Word → Bool
identification_fits w = leb 2 (length w) && (leb (length w) 7 && all sign w)

-- four digits, each 0 to 7
abbrev pub valid_code : Option Word → Bool
valid_code none = true
valid_code (some c) = fits (bytes "oooo") c

unfoldable pub valid7 : Field7 → Bool
valid7 r = identification_fits r.identification && valid_code r.code

-- THE READING

unfoldable pub fits7 : List ℕ → Bool
fits7 s = cond (holds 47 s) (identification_fits (before 47 s) && fits (bytes "Aoooo") (behind 47 s)) (identification_fits s)

abbrev pub record7 : List ℕ → Field7
record7 s = record { identification = before 47 s; code = cond (holds 47 s) (some (drop 1 (behind 47 s))) none }

abbrev pub field7 : Field
field7 = record { Record = Field7; valid = valid7; spell = spell7; fits = fits7; record_of = record7; canonical = λ r. r }

-- EXAMPLES, computed

fitting : (fits7 (bytes "ABC12/A7777") ≡ true) × (fits7 (bytes "ABC12") ≡ true) × (fits7 (bytes "12") ≡ true) × (fits7 (bytes "ABCDEFG") ≡ true)
unfolding fits7 letters
fitting = (refl, refl, refl, refl)

not_fitting : (fits7 (bytes "ABC12/A7780") ≡ false) × (fits7 (bytes "A") ≡ false) × (fits7 (bytes "ABCDEFGH") ≡ false) × (fits7 (bytes "ABC12/7777") ≡ false)
    × (fits7 (bytes "ABC12/") ≡ false) × (fits7 (bytes "ABC 12") ≡ false) × (fits7 (bytes "ABC12/A77777") ≡ false) × (fits7 (bytes "") ≡ false)
unfolding fits7 letters
not_fitting = (refl, refl, refl, refl, refl, refl, refl, refl)

sample : record7 (bytes "ABC12/A7777") ≡ record { identification = bytes "ABC12"; code = some (bytes "7777") }
sample = refl
