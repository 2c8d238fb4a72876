-- Field 17 (document 01): four letters and a time of day; after ZZZZ a space and one or more text words must follow, after others nothing
-- may. Assumes nothing.
use Rattle.std.specs.Prelude.{ℕ, ◌≡◌, refl, Bool, true, false, ◌&&◌, not, cond, List, [], ◌∷◌}
use Rattle.alphabet.specs.Text.{bytes}
use Rattle.alphabet.specs.Alphabet.{text, in_alphabet, white}
use Rattle.text.specs.Words.{Word, all, null, same, split, join, text_word}
use Rattle.shape.specs.declared.Clock.{Clock}
use Rattle.shape.specs.Time.{time_fits, clock_hours, clock_of}
use Rattle.shape.specs.Field.{Field}
use Rattle.aerodromes.specs.Aerodromes.{four_letters, aerodrome_of, joined_of, joined, valid_joined, spell_joined, first, others}

-- ZZZZ: an aerodrome that has no four letters of its own
unfoldable pub unlisted : Word
unlisted = bytes "ZZZZ"

-- what may follow an aerodrome and its time
abbrev pub place_fits : Word → List Word → Bool
place_fits a ws = cond (same a unlisted) (not (null ws) && all text_word ws) (null ws)

pub record Field17 : Type 0 where
  pub aerodrome : Word
  pub time : Clock
  -- the words after ZZZZ
  pub place : List Word

abbrev pub valid17 : Field17 → Bool
valid17 r = valid_joined clock_hours r.aerodrome r.time.0 && place_fits r.aerodrome r.place

abbrev pub spell17 : Field17 → List ℕ
spell17 r = join 32 (spell_joined r.aerodrome r.time.0 ∷ r.place)

unfoldable pub fits17 : List ℕ → Bool
fits17 s = joined clock_hours (first (split 32 s)) && place_fits (aerodrome_of (first (split 32 s))) (others (split 32 s))

abbrev pub record17 : List ℕ → Field17
record17 s =
    record {
      aerodrome = aerodrome_of (first (split 32 s));
      time = clock_of (joined_of (first (split 32 s)));
      place = others (split 32 s);
    }

abbrev pub field17 : Field
field17 = record { Record = Field17; valid = valid17; spell = spell17; fits = fits17; record_of = record17; canonical = λ r. r }

-- EXAMPLES, computed

landed_17 : (fits17 (bytes "EHAM1433") ≡ true) × (fits17 (bytes "ZZZZ1620 SOBKIVKA") ≡ true) × (fits17 (bytes "ZZZZ1620 A B.1") ≡ true)
unfolding fits17 joined four_letters time_fits unlisted text in_alphabet white
landed_17 = (refl, refl, refl)

refused_17 : (fits17 (bytes "EHAM1433 X") ≡ false) × (fits17 (bytes "EHAM1433 ") ≡ false) × (fits17 (bytes "EHAM") ≡ false) × (fits17 [] ≡ false)
    × (fits17 (bytes "ZZZZ1620") ≡ false) × (fits17 (bytes "ZZZZ1620 ") ≡ false)
    × (fits17 (bytes "ZZZZ1620 A  B") ≡ false) × (fits17 (bytes "ZZZZ1620 A/B") ≡ false)
unfolding fits17 joined four_letters time_fits unlisted text in_alphabet white
refused_17 = (refl, refl, refl, refl, refl, refl, refl, refl)

read_17 : record17 (bytes "ZZZZ1620 A B.1") ≡ record { aerodrome = bytes "ZZZZ"; time = record { 0 = 980 }; place = bytes "A" ∷ (bytes "B.1" ∷ []) }
read_17 = refl
