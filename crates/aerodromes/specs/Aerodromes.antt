-- What fields 13, 16 and 17 (document 01) share: an aerodrome, a time joined to it, and the words behind. Assumes nothing.
use Rattle.std.specs.Prelude.{ℕ, ◌≡◌, refl, Bool, true, false, ◌&&◌, List, [], ◌∷◌, ◌++◌, eqb, length, take, drop, Option, Some, None}
use Rattle.std.specs.Bool.{then_some}
use Rattle.alphabet.specs.Text.{bytes}
use Rattle.alphabet.specs.Alphabet.{letter}
use Rattle.text.specs.Words.{Word, all, split}
use Rattle.shape.specs.declared.Clock.{Clock}
use Rattle.shape.specs.declared.Elapsed.{Elapsed}
use Rattle.shape.specs.Time.{time_fits, spell_time, valid_time, clock_hours, clock_of, elapsed_hours, elapsed_of}

-- AN AERODROME: four letters

unfoldable pub four_letters : Word → Bool
four_letters w = eqb (length w) 4 && all letter w

-- the first four bytes, where an aerodrome stands, and what is joined to them
abbrev pub aerodrome_of : List ℕ → Word
aerodrome_of s = take 4 s

abbrev pub joined_of : List ℕ → Word
joined_of s = drop 4 s

-- AN AERODROME AND A TIME joined to it, for a greatest hour

unfoldable pub joined : ℕ → Word → Bool
joined most w = four_letters (aerodrome_of w) && time_fits most (joined_of w)

abbrev pub valid_joined : ℕ → Word → ℕ → Bool
valid_joined most a n = four_letters a && valid_time most n

abbrev pub spell_joined : Word → ℕ → Word
spell_joined a n = a ++ spell_time n

-- the time so joined, if there is one: a time of day, an elapsed time

abbrev pub at_clock : Word → Option Clock
at_clock w = then_some (joined clock_hours w) (clock_of (joined_of w))

abbrev pub at_elapsed : Word → Option Elapsed
at_elapsed w = then_some (joined elapsed_hours w) (elapsed_of (joined_of w))

-- THE WORDS OF A CONTENT: the first, and those behind it, each after one space

abbrev pub first : List Word → Word
first [] = []
first (w ∷ ws) = w

abbrev pub others : List Word → List Word
others [] = []
others (w ∷ ws) = ws

-- EXAMPLES, computed

letters_four : (four_letters (bytes "EHAM") ≡ true) × (four_letters (bytes "EHA1") ≡ false) × (four_letters (bytes "EHAMA") ≡ false) × (four_letters [] ≡ false)
unfolding four_letters
letters_four = (refl, refl, refl, refl)

time_joined : (joined clock_hours (bytes "EHAM0930") ≡ true) × (joined clock_hours (bytes "EHAM 0930") ≡ false) × (joined clock_hours (bytes "EHAM") ≡ false)
unfolding joined four_letters time_fits
time_joined = (refl, refl, refl)

time_read : (at_clock (bytes "EHAM0930") ≡ Some (record { 0 = 570 })) × (at_clock (bytes "EHAM2400") ≡ None)
    × (at_clock (bytes "EHA10930") ≡ None)
    × (at_elapsed (bytes "EDDF0100") ≡ Some (record { 0 = 60 })) × (at_elapsed (bytes "EDDF") ≡ None)
unfolding joined four_letters time_fits
time_read = (refl, refl, refl, refl, refl)

words_behind : (first (split 32 (bytes "EDDF0100 EDDK")) ≡ bytes "EDDF0100") × (others (split 32 (bytes "EDDF0100 EDDK")) ≡ bytes "EDDK" ∷ [])
words_behind = (refl, refl)
