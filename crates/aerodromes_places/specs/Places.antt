-- The place of a content of field 13, 16 or 17 that does not fit (document 02, request 4). Assumes nothing.
use Rattle.std.specs.Prelude.{ℕ, suc, ◌≡◌, refl, Bool, true, false, ◌&&◌, cond, List, [], leb, eqb, Option, None}
use Rattle.alphabet.specs.Text.{bytes}
use Rattle.alphabet.specs.Alphabet.{letter, text, in_alphabet, white}
use Rattle.text.specs.Words.{Word, split, same, text_word, leading}
use Rattle.shape.specs.Time.{time_fits, clock_hours, elapsed_hours}
use Rattle.places.specs.Parts.{no_more, fixed_place, time_place}
use Rattle.places.specs.Given.{given}
use Rattle.places.specs.Words.{Words, words_place}
use Rattle.aerodromes.specs.Aerodromes.{four_letters, joined, aerodrome_of}
use Rattle.aerodromes.specs.Field16.{most_alternates}
use Rattle.aerodromes.specs.Field17.{unlisted}
use Rattle.aerodromes_places.specs.declared.Arrival.{Arrival}
use Rattle.aerodromes_places.specs.declared.Arrival.TheVariants.{Start, Listed, Unlisted, Named}

-- FOUR LETTERS, alone and with a time

abbrev pub aerodrome_place : Word → ℕ
aerodrome_place w = fixed_place letter 4 no_more w

abbrev pub joined_place : ℕ → Word → ℕ
joined_place most w = fixed_place letter 4 (time_place most) w

-- FIELD 13, also where the time may be absent, and FIELD 16 alone

abbrev pub place13 : List ℕ → ℕ
place13 s = joined_place clock_hours s

abbrev pub place16 : List ℕ → ℕ
place16 s = aerodrome_place s

-- FIELD 16 IN FPL AND SPL, by words: what is known is how many there were

abbrev pub plan : Words
plan =
    record {
      K = ℕ;
      after = λ n w. cond (eqb n 0) (given (joined elapsed_hours w) 1) (given (leb n most_alternates && four_letters w) (suc n));
      final = λ n. leb 1 n;
      goes = λ n. leb n most_alternates;
    }

abbrev pub plan_place : ℕ → Word → ℕ
plan_place n w = cond (eqb n 0) (joined_place elapsed_hours w) (cond (leb n most_alternates) (aerodrome_place w) 0)

unfoldable pub place16plan : List ℕ → ℕ
place16plan s = words_place plan plan_place 0 (split 32 s)

-- FIELD 16 AS AN ENTRY OF A CHG: four letters alone may always go on as the longer form does, so it has that form's place

abbrev pub place16entry : List ℕ → ℕ
place16entry s = place16plan s

-- FIELD 17, by words: an aerodrome with a time, and words behind it where it is not listed

abbrev pub landed_after : Arrival → Word → Option Arrival
landed_after Start w = given (joined clock_hours w) (cond (same (aerodrome_of w) unlisted) Unlisted Listed)
landed_after Listed w = None
landed_after Unlisted w = given (text_word w) Named
landed_after Named w = given (text_word w) Named

abbrev pub landed_final : Arrival → Bool
landed_final Start = false
landed_final Listed = true
landed_final Unlisted = false
landed_final Named = true

abbrev pub landed_goes : Arrival → Bool
landed_goes Start = true
landed_goes Listed = false
landed_goes Unlisted = true
landed_goes Named = true

abbrev pub landed : Words
landed = record { K = Arrival; after = landed_after; final = landed_final; goes = landed_goes }

abbrev pub landed_place : Arrival → Word → ℕ
landed_place Start w = joined_place clock_hours w
landed_place Listed w = 0
landed_place Unlisted w = leading text w
landed_place Named w = leading text w

unfoldable pub place17 : List ℕ → ℕ
place17 s = words_place landed landed_place Start (split 32 s)

-- EXAMPLES, computed

-- the second line of document 01's listing: the field begins at 11, and 24 is no hour
placed_13 : (place13 (bytes "EHAM2460") ≡ 5) × (place13 (bytes "EHAM2400") ≡ 5) × (place13 (bytes "EHAM930") ≡ 4) × (place13 (bytes "EHA10930") ≡ 3)
    × (place13 (bytes "LHBP") ≡ 4) × (place13 (bytes "EHAM0960") ≡ 6) × (place13 (bytes "EHAM09301") ≡ 8) × (place13 [] ≡ 0)
unfolding time_place
placed_13 = (refl, refl, refl, refl, refl, refl, refl, refl)

placed_16 : (place16plan (bytes "EDDF0100 EDDK EDDL EDDM") ≡ 18) × (place16plan (bytes "EDDF0100 ") ≡ 9) × (place16plan (bytes "EDDF 0100") ≡ 4)
    × (place16plan (bytes "EDDF0100 EDD") ≡ 12) × (place16plan (bytes "EDDF2460") ≡ 6) × (place16plan (bytes "EDDF") ≡ 4) × (place16plan [] ≡ 0)
    × (place16plan (bytes "EDDF0100  EDDK") ≡ 9)
unfolding place16plan time_place joined four_letters time_fits
placed_16 = (refl, refl, refl, refl, refl, refl, refl, refl)

entered_16 : (place16entry (bytes "EDDN0") ≡ 5) × (place16entry (bytes "EDD1") ≡ 3) × (place16entry (bytes "EDD") ≡ 3) × (place16entry (bytes "EDDN EDDK") ≡ 4)
unfolding place16plan time_place joined four_letters time_fits
entered_16 = (refl, refl, refl, refl)

placed_17 : (place17 (bytes "EHAM1433 X") ≡ 8) × (place17 (bytes "ZZZZ1620") ≡ 8) × (place17 (bytes "ZZZZ1620 ") ≡ 9)
    × (place17 (bytes "ZZZZ1620 A  B") ≡ 11) × (place17 (bytes "ZZZZ1620 A/B") ≡ 10) × (place17 (bytes "EHAM") ≡ 4)
unfolding place17 time_place joined four_letters time_fits unlisted text in_alphabet white
placed_17 = (refl, refl, refl, refl, refl, refl)
