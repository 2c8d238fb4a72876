-- Field 8: the rules, and optionally the kind of flight. Assumes nothing.
use Rattle.std.specs.Prelude.{ℕ, ◌≡◌, refl, Bool, true, false, ◌&&◌, List, [], ◌∷◌}
use Rattle.std.proofs.Math.Option.{Option, none, some}
use Rattle.alphabet.specs.Text.{bytes}
use Rattle.alphabet.specs.Alphabet.{one_of}
use Rattle.shape.specs.Field.{Field}

-- THE RECORD AND ITS SPELLING

pub record Field8 : Type 0 where
  pub rules : ℕ
  pub flight : Option ℕ

abbrev pub spell_flight : Option ℕ → List ℕ
spell_flight none = []
spell_flight (some b) = b ∷ []

abbrev pub spell8 : Field8 → List ℕ
spell8 r = r.rules ∷ spell_flight r.flight

-- WHICH RECORDS

abbrev pub rules_fit : ℕ → Bool
rules_fit b = one_of b (bytes "IVYZ")

abbrev pub flight_fits : ℕ → Bool
flight_fits b = one_of b (bytes "SNGMX")

abbrev pub valid_flight : Option ℕ → Bool
valid_flight none = true
valid_flight (some b) = flight_fits b

unfoldable pub valid8 : Field8 → Bool
valid8 r = rules_fit r.rules && valid_flight r.flight

-- THE READING

unfoldable pub fits8 : List ℕ → Bool
fits8 [] = false
fits8 (a ∷ []) = rules_fit a
fits8 (a ∷ (b ∷ [])) = rules_fit a && flight_fits b
fits8 (a ∷ (b ∷ (c ∷ s))) = false

abbrev pub flight_of : List ℕ → Option ℕ
flight_of [] = none
flight_of (b ∷ s) = some b

abbrev pub record8 : List ℕ → Field8
record8 [] = record { rules = 0; flight = none }
record8 (a ∷ s) = record { rules = a; flight = flight_of s }

abbrev pub field8 : Field
field8 = record { Record = Field8; valid = valid8; spell = spell8; fits = fits8; record_of = record8; canonical = λ r. r }

-- EXAMPLES, computed

fitting : (fits8 (bytes "IS") ≡ true) × (fits8 (bytes "V") ≡ true) × (fits8 (bytes "ZX") ≡ true)
unfolding fits8
fitting = (refl, refl, refl)

not_fitting : (fits8 (bytes "") ≡ false) × (fits8 (bytes "S") ≡ false) × (fits8 (bytes "II") ≡ false) × (fits8 (bytes "ISS") ≡ false)
    × (fits8 (bytes "I ") ≡ false)
unfolding fits8
not_fitting = (refl, refl, refl, refl, refl)
