-- Field 19 in canonical form (document 01, "19."): letters in the order of their set, counts without leading zeros; and the form as a bundle.
-- Assumes nothing.
use Rattle.std.specs.Prelude.{ℕ, ◌≡◌, refl, true, cond, List, [], ◌∷◌, ltb}
use Rattle.std.proofs.Math.Option.{Option, none, some}
use Rattle.alphabet.specs.Text.{bytes}
use Rattle.alphabet.specs.Alphabet.{text, one_of, in_alphabet, white}
use Rattle.text.specs.Words.{Word}
use Rattle.shape.specs.Time.{time_fits}
use Rattle.shape.specs.Field.{Field}
use Rattle.supplement.specs.Field19.{Count, Part, endurance, persons, radio, survival, jackets, dinghies, aircraft, remarks, pilot, Field19, keyed}
use Rattle.supplement.specs.Field19.{radio_letters, survival_letters, light_letters, jacket_radio_letters, valid19, spell19, fits19, record19, manual}

-- LETTERS

-- the letters of the set that stand in w
abbrev pub sorted : List ℕ → Word → Word
sorted [] w = []
sorted (b ∷ set) w = cond (one_of b w) (b ∷ sorted set w) (sorted set w)

-- COUNTS: without leading zeros; zero is one digit

-- the fewest digits of a number below 1000
abbrev pub fewest : ℕ → ℕ
fewest n = cond (ltb n 10) 1 (cond (ltb n 100) 2 3)

abbrev pub shortest : Count → Count
shortest c = record { number = c.number; width = fewest c.number }

-- THE RECORD

abbrev pub sorted_if : Option Word → Option Word
sorted_if none = none
sorted_if (some w) = some (sorted jacket_radio_letters w)

abbrev pub shortest_if : Option (Count × Count) → Option (Count × Count)
shortest_if none = none
shortest_if (some p) = some (shortest p.0, shortest p.1)

abbrev pub canonical_part : Part → Part
canonical_part (endurance t) = endurance t
canonical_part (persons c) = persons (shortest c)
canonical_part (radio w) = radio (sorted radio_letters w)
canonical_part (survival w) = survival (sorted survival_letters w)
canonical_part (jackets w o) = jackets (sorted light_letters w) (sorted_if o)
canonical_part (dinghies o c ws) = dinghies (shortest_if o) c ws
canonical_part (aircraft ws) = aircraft ws
canonical_part (remarks ws) = remarks ws
canonical_part (pilot ws) = pilot ws

abbrev pub canonical19 : Field19 → Field19
canonical19 [] = []
canonical19 (p ∷ ps) = canonical_part p ∷ canonical19 ps

-- THE FORM

abbrev pub field19 : Field
field19 =
    record {
      Record = Field19;
      valid = valid19;
      spell = spell19;
      fits = fits19;
      record_of = record19;
      canonical = canonical19;
    }

-- what is written of a content: the canonical spelling where it fits, else the content itself
unfoldable pub written19 : List ℕ → List ℕ
written19 s = cond (fits19 s) (spell19 (canonical19 (record19 s))) s

-- EXAMPLES, computed

manual_kept : written19 manual ≡ manual
unfolding written19 spell19 fits19 record19 keyed time_fits text in_alphabet white
manual_kept = refl

counted : (written19 (bytes "P/006") ≡ bytes "P/6") × (written19 (bytes "P/000") ≡ bytes "P/0")
    × (written19 (bytes "D/02 014 C ORANGE") ≡ bytes "D/2 14 C ORANGE")
unfolding written19 spell19 fits19 record19 keyed time_fits text in_alphabet white
counted = (refl, refl, refl)

-- the records of two of these
recorded : (canonical19 (record19 (bytes "P/006")) ≡ persons (record { number = 6; width = 1 }) ∷ [])
    × (canonical19 (record19 (bytes "D/02 014 C ORANGE"))
    ≡ dinghies (some (record { number = 2; width = 1 }, record { number = 14; width = 2 })) true (bytes "ORANGE" ∷ []) ∷ [])
unfolding record19 keyed
recorded = (refl, refl)

fewest_digits : (fewest 0 ≡ 1) × (fewest 9 ≡ 1) × (fewest 10 ≡ 2) × (fewest 99 ≡ 2) × (fewest 100 ≡ 3)
fewest_digits = (refl, refl, refl, refl, refl)

lettered : (written19 (bytes "R/EVU") ≡ bytes "R/UVE") × (written19 (bytes "J/FL VU") ≡ bytes "J/LF UV")
unfolding written19 spell19 fits19 record19 keyed time_fits text in_alphabet white
lettered = (refl, refl)
