-- What is asked of a content of field 13, 16 or 17, whatever its bytes: the aerodrome, the time, the alternates. Assumes nothing.
use Rattle.std.specs.Prelude.{ℕ, ◌≡◌, refl, Bool, true, false, List, [], ◌∷◌, take, get_or, Option, Some, None}
use Rattle.alphabet.specs.Text.{bytes}
use Rattle.alphabet.specs.Alphabet.{letter}
use Rattle.text.specs.Words.{Word, all, elem, split}
use Rattle.shape.specs.declared.Clock.{Clock}
use Rattle.shape.specs.declared.Elapsed.{Elapsed}
use Rattle.shape.specs.Time.{time_fits, clock_read, elapsed_read}
use Rattle.aerodromes.specs.declared.Aerodrome.{Aerodrome}
use Rattle.aerodromes.specs.Aerodromes.{joined_of, others}

-- the time of day that is joined to the aerodrome, if it is one
abbrev pub clock_at : List ℕ → Option Clock
clock_at s = clock_read (take 4 (joined_of s))

-- the elapsed time that is joined to the aerodrome, if it is one
abbrev pub elapsed_at : List ℕ → Option Elapsed
elapsed_at s = elapsed_read (take 4 (joined_of s))

-- the words behind the first: the alternates of field 16
abbrev pub alternates_of : List ℕ → List Word
alternates_of s = others (split 32 s)

abbrev pub has_alternate : List ℕ → Word → Bool
has_alternate s name = elem name (alternates_of s)

-- AN AERODROME BY ITS FOUR BYTES

-- those in front of a content; 0 where one is missing
abbrev pub aerodrome_in : List ℕ → Aerodrome
aerodrome_in s = record { 0 = get_or s 0 0; 1 = get_or s 1 0; 2 = get_or s 2 0; 3 = get_or s 3 0 }

abbrev pub four_bytes : Aerodrome → Word
four_bytes a = a.0 ∷ (a.1 ∷ (a.2 ∷ (a.3 ∷ [])))

abbrev pub is_letters : Aerodrome → Bool
is_letters a = all letter (four_bytes a)

-- EXAMPLES, computed

asked : (clock_at (bytes "EHAM1433 X") ≡ Some (record { 0 = 873 })) × (clock_at (bytes "LHBP") ≡ None)
    × (elapsed_at (bytes "EDDF0100 EDDK") ≡ Some (record { 0 = 60 })) × (elapsed_at (bytes "EDDF0160") ≡ None)
    × (has_alternate (bytes "EDDF0100 EDDK EDDL") (bytes "EDDL") ≡ true)
    × (has_alternate (bytes "EDDF0100 EDDK") (bytes "EDDF") ≡ false) × (has_alternate (bytes "EDDF0100") [] ≡ false)
unfolding time_fits
asked = (refl, refl, refl, refl, refl, refl, refl)

four : (four_bytes (aerodrome_in (bytes "EHAM0930")) ≡ bytes "EHAM") × (is_letters (aerodrome_in (bytes "EHA")) ≡ false)
four = (refl, refl)
