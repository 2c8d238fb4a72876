-- Field 13 (document 01): four letters and a time of day; and its form in RQP, where the time may be absent. Assumes nothing.
use Rattle.std.specs.Prelude.{ℕ, ◌≡◌, refl, Bool, true, false, ◌&&◌, List, [], ◌∷◌, ◌++◌, Option, Some, None}
use Rattle.alphabet.specs.Text.{bytes}
use Rattle.text.specs.Words.{Word}
use Rattle.shape.specs.declared.Clock.{Clock}
use Rattle.shape.specs.Time.{time_fits, clock_hours, clock_fits, clock_of, spell_clock, valid_clock}
use Rattle.shape.specs.Field.{Field}
use Rattle.aerodromes.specs.Aerodromes.{four_letters, aerodrome_of, joined_of, joined, valid_joined, spell_joined}

-- FIELD 13

pub record Field13 : Type 0 where
  pub aerodrome : Word
  pub time : Clock

abbrev pub valid13 : Field13 → Bool
valid13 r = valid_joined clock_hours r.aerodrome r.time.0

abbrev pub spell13 : Field13 → List ℕ
spell13 r = spell_joined r.aerodrome r.time.0

abbrev pub fits13 : List ℕ → Bool
fits13 s = joined clock_hours s

abbrev pub record13 : List ℕ → Field13
record13 s = record { aerodrome = aerodrome_of s; time = clock_of (joined_of s) }

abbrev pub field13 : Field
field13 = record { Record = Field13; valid = valid13; spell = spell13; fits = fits13; record_of = record13; canonical = λ r. r }

-- FIELD 13 IN RQP

-- a time of day, or nothing

abbrev pub clock_or_none : Word → Bool
clock_or_none [] = true
clock_or_none (b ∷ w) = clock_fits (b ∷ w)

abbrev pub clock_if_any : Word → Option Clock
clock_if_any [] = None
clock_if_any (b ∷ w) = Some (clock_of (b ∷ w))

abbrev pub valid_if_any : Option Clock → Bool
valid_if_any None = true
valid_if_any (Some t) = valid_clock t

abbrev pub spell_if_any : Option Clock → Word
spell_if_any None = []
spell_if_any (Some t) = spell_clock t

pub record Field13Open : Type 0 where
  pub aerodrome : Word
  pub time : Option Clock

abbrev pub valid13open : Field13Open → Bool
valid13open r = four_letters r.aerodrome && valid_if_any r.time

abbrev pub spell13open : Field13Open → List ℕ
spell13open r = r.aerodrome ++ spell_if_any r.time

unfoldable pub fits13open : List ℕ → Bool
fits13open s = four_letters (aerodrome_of s) && clock_or_none (joined_of s)

abbrev pub record13open : List ℕ → Field13Open
record13open s = record { aerodrome = aerodrome_of s; time = clock_if_any (joined_of s) }

abbrev pub field13open : Field
field13open =
    record { Record = Field13Open; valid = valid13open; spell = spell13open; fits = fits13open; record_of = record13open; canonical = λ r. r }

-- EXAMPLES, computed

timed_13 : (fits13 (bytes "EHAM0930") ≡ true) × (record13 (bytes "EHAM0930") ≡ record { aerodrome = bytes "EHAM"; time = record { 0 = 570 } })
unfolding joined four_letters time_fits
timed_13 = (refl, refl)

refused_13 : (fits13 (bytes "EHAM2400") ≡ false) × (fits13 (bytes "EHAM2460") ≡ false) × (fits13 (bytes "EHAM930") ≡ false)
    × (fits13 (bytes "EHA10930") ≡ false) × (fits13 (bytes "LHBP") ≡ false) × (fits13 [] ≡ false)
unfolding joined four_letters time_fits
refused_13 = (refl, refl, refl, refl, refl, refl)

open_13 : (fits13open (bytes "LHBP") ≡ true) × (record13open (bytes "LHBP") ≡ record { aerodrome = bytes "LHBP"; time = None })
    × (fits13open (bytes "EHAM0930") ≡ true)
    × (record13open (bytes "EHAM0930") ≡ record { aerodrome = bytes "EHAM"; time = Some (record { 0 = 570 }) })
    × (fits13open (bytes "EHAM2400") ≡ false) × (fits13open (bytes "LHB") ≡ false) × (fits13open (bytes "LHBP ") ≡ false) × (fits13open [] ≡ false)
unfolding fits13open four_letters time_fits
open_13 = (refl, refl, refl, refl, refl, refl, refl, refl)
