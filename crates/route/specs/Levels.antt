-- Field 15 (document 01, "15"), speed and level. Assumes nothing.
use Rattle.std.specs.Prelude.{ℕ, ◌^◌, ◌≡◌, refl, Bool, true, false, ◌&&◌, cond, List, [], ◌∷◌, ◌++◌, ltb, take, drop, get_or}
use Rattle.alphabet.specs.Text.{bytes}
use Rattle.alphabet.specs.Alphabet.{one_of}
use Rattle.text.specs.Words.{Word, split, same}
use Rattle.shape.specs.Numbers.{digits, value}

-- THE RECORDS: a letter and a number

-- K or N and 4 digits, or M and 3
pub record Speed : Type 0 where
  pub unit : ℕ
  pub number : ℕ

-- F or A and 3 digits, S or M and 4
pub record Level : Type 0 where
  pub unit : ℕ
  pub number : ℕ

-- at the start a level, or VFR
pub data StartLevel : Type 0 where
  vfr : StartLevel
  cruising : Level → StartLevel

-- at a climb a second level, or PLUS
pub data UpperLevel : Type 0 where
  plus : UpperLevel
  upper : Level → UpperLevel

-- WHICH ARE VALID

-- how many digits are due behind a letter; 0 where it is none of these letters
unfoldable pub speed_digits : ℕ → ℕ
speed_digits u = cond (one_of u (bytes "KN")) 4 (cond (one_of u (bytes "M")) 3 0)

unfoldable pub level_digits : ℕ → ℕ
level_digits u = cond (one_of u (bytes "FA")) 3 (cond (one_of u (bytes "SM")) 4 0)

-- a number of so many digits, which are one or more
abbrev pub in_digits : ℕ → ℕ → Bool
in_digits size n = ltb 0 size && ltb n (10 ^ size)

abbrev pub valid_speed : Speed → Bool
valid_speed s = in_digits (speed_digits s.unit) s.number

abbrev pub valid_level : Level → Bool
valid_level l = in_digits (level_digits l.unit) l.number

abbrev pub valid_start : StartLevel → Bool
valid_start vfr = true
valid_start (cruising l) = valid_level l

abbrev pub valid_upper : UpperLevel → Bool
valid_upper plus = true
valid_upper (upper l) = valid_level l

-- THEIR SPELLINGS

abbrev pub spell_speed : Speed → Word
spell_speed s = s.unit ∷ digits (speed_digits s.unit) s.number

abbrev pub spell_level : Level → Word
spell_level l = l.unit ∷ digits (level_digits l.unit) l.number

abbrev pub spell_start : StartLevel → Word
spell_start vfr = bytes "VFR"
spell_start (cruising l) = spell_level l

abbrev pub spell_upper : UpperLevel → Word
spell_upper plus = bytes "PLUS"
spell_upper (upper l) = spell_level l

-- WHICH WORDS FIT, as shapes: k is K or N, f is F or A, s is S or M, a digit is a number of so many digits. They are the spellings of the valid
-- records: `start`, `change` and `climb` in proofs/Levels.antt.

unfoldable pub speeds : List Word
speeds = split 32 (bytes "k4 M3")

unfoldable pub levels : List Word
levels = split 32 (bytes "f3 s4")

-- each of a list of shapes with each of another behind it
abbrev pub prefixed : Word → List Word → List Word
prefixed t [] = []
prefixed t (u ∷ us) = (t ++ u) ∷ prefixed t us

abbrev pub each : List Word → List Word → List Word
each [] us = []
each (t ∷ ts) us = prefixed t us ++ each ts us

-- speed and level at the start; at a point, where VFR may not stand; at a climb, with a second level or PLUS
unfoldable pub starts : List Word
starts = each speeds (levels ++ (bytes "VFR" ∷ []))

unfoldable pub changes : List Word
changes = each speeds levels

unfoldable pub climbs : List Word
climbs = each speeds (each levels (levels ++ (bytes "PLUS" ∷ [])))

-- THE RECORD OF A WORD: what it has at its front, and what is past it

-- the number of so many digits at a place of a word
abbrev pub number_at : ℕ → ℕ → Word → ℕ
number_at i size w = value (take size (drop i w))

abbrev pub letter_of : Word → ℕ
letter_of w = get_or w 0 0

abbrev pub speed_of : Word → Speed
speed_of w = record { unit = letter_of w; number = number_at 1 (speed_digits (letter_of w)) w }

abbrev pub past_speed : Word → Word
past_speed w = drop (speed_digits (letter_of w)) (drop 1 w)

abbrev pub level_of : Word → Level
level_of w = record { unit = letter_of w; number = number_at 1 (level_digits (letter_of w)) w }

abbrev pub past_level : Word → Word
past_level w = drop (level_digits (letter_of w)) (drop 1 w)

abbrev pub start_of : Word → StartLevel
start_of w = cond (same w (bytes "VFR")) vfr (cruising (level_of w))

abbrev pub upper_of : Word → UpperLevel
upper_of w = cond (same w (bytes "PLUS")) plus (upper (level_of w))

-- EXAMPLES, computed

speed_told : (speed_of (bytes "N0440F310") ≡ record { unit = 78; number = 440 }) × (past_speed (bytes "N0440F310") ≡ bytes "F310")
unfolding speed_digits
speed_told = (refl, refl)

speed_spelt : (spell_speed (record { unit = 77; number = 82 }) ≡ bytes "M082") × (valid_speed (record { unit = 77; number = 1000 }) ≡ false)
unfolding speed_digits
speed_spelt = (refl, refl)

level_told : (start_of (bytes "F310") ≡ cruising (record { unit = 70; number = 310 })) × (start_of (bytes "VFR") ≡ vfr) × (upper_of (bytes "PLUS") ≡ plus)
unfolding level_digits
level_told = (refl, refl, refl)
