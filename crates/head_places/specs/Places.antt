-- The place of a content of field 3, 7, 8 or 9 that does not fit (document 02, request 4). Assumes nothing.
use Rattle.std.specs.Prelude.{ℕ, ◌+◌, ◌≤◌, ◌≡◌, refl, cond, List, eqb, length, take, drop, Result, Ok, Err}
use Rattle.alphabet.specs.Text.{bytes}
use Rattle.alphabet.specs.Alphabet.{letter, digit, sign}
use Rattle.text.specs.Words.{Word, elem}
use Rattle.shape.specs.Shape.{letters}
use Rattle.places.specs.Parts.{first_place, no_more, two_digits, run_place, along, fixed_place, then_place, cut_place}
use Rattle.entries.specs.Entries.{any_of}
use Rattle.head.specs.Field3.{types, unit}
use Rattle.head.specs.Field7.{identification_fits}
use Rattle.head.specs.Field8.{rules_fit, flight_fits}
use Rattle.head.specs.Field9.{type_fits, wake_fits, count_fits}

-- FIELD 3: a type, and up to two numbers: 1 to 4 letters, `/`, 1 to 4 letters, three digits, and what may follow

abbrev pub unit_then : (List ℕ → ℕ) → Word → ℕ
unit_then pg w = then_place letter unit (run_place 4 letter) pg w

abbrev pub oblique_then : (List ℕ → ℕ) → Word → ℕ
oblique_then pg w = first_place (λ b. eqb b 47) (λ b. unit_then pg) w

abbrev pub to_digits : (List ℕ → ℕ) → Word → ℕ
to_digits pg w = unit_then (oblique_then pg) w

abbrev pub number_then : (List ℕ → ℕ) → Word → ℕ
number_then pg w = to_digits (fixed_place digit 3 pg) w

abbrev pub numbers_place : Word → ℕ
numbers_place w = number_then (number_then no_more) w

-- whatever follows: its place is counted from `at`, or, where the bytes do not go on, is `at`
abbrev pub Reaches : ((List ℕ → ℕ) → Word → ℕ) → Word → Result ℕ ℕ → Type 0
Reaches f w (Ok at) = (at ≤ length w) × ((pg : List ℕ → ℕ) → f pg w ≡ at + pg (drop at w))
Reaches f w (Err at) = (at ≤ length w) × ((pg : List ℕ → ℕ) → f pg w ≡ at)

unfoldable pub place3 : List ℕ → ℕ
place3 s = cond (elem (take 3 s) types) (3 + numbers_place (drop 3 s)) (any_of types s)

-- FIELD 7: 2 to 7 signs, then `/A` and four digits

unfoldable pub place7 : List ℕ → ℕ
place7 s = cut_place 47 identification_fits (run_place 7 sign) (along (bytes "Aoooo")) s

-- FIELD 8: a byte, and a second one

unfoldable pub place8 : List ℕ → ℕ
place8 s = first_place rules_fit (λ a. first_place flight_fits (λ b. no_more)) s

-- FIELD 9: digits, a type, `/` and a byte

abbrev pub count_place : Word → ℕ
count_place w = two_digits 49 57 w

abbrev pub type_place : Word → ℕ
type_place w = first_place letter (λ a. run_place 3 sign) w

abbrev pub wake_place : Word → ℕ
wake_place w = first_place wake_fits (λ a. no_more) w

unfoldable pub aircraft_place : List ℕ → ℕ
aircraft_place t = cut_place 47 type_fits type_place wake_place t

unfoldable pub place9 : List ℕ → ℕ
place9 s = then_place digit count_fits count_place aircraft_place s

-- EXAMPLES, computed

placed_3 : (place3 (bytes "CNLX") ≡ 4) × (place3 (bytes "CNX") ≡ 2) × (place3 (bytes "XYZ") ≡ 0) × (place3 (bytes "CHGA/F01") ≡ 8)
    × (place3 (bytes "CHGA/F0160") ≡ 9) × (place3 (bytes "CHGA/F016A/F014A") ≡ 15) × (place3 (bytes "CHGABCDE/F016") ≡ 7) × (place3 (bytes "CHG/F016") ≡ 3)
    × (place3 (bytes "CHG A/F016") ≡ 3) × (place3 (bytes "CN") ≡ 2)
unfolding place3 types
placed_3 = (refl, refl, refl, refl, refl, refl, refl, refl, refl, refl)

placed_7 : (place7 (bytes "ABC12/A7780") ≡ 9) × (place7 (bytes "A") ≡ 1) × (place7 (bytes "ABCDEFGH") ≡ 7) × (place7 (bytes "ABC12/7777") ≡ 6)
    × (place7 (bytes "ABC12/") ≡ 6) × (place7 (bytes "ABC 12") ≡ 3) × (place7 (bytes "A/A7777") ≡ 1) × (place7 (bytes "") ≡ 0)
unfolding place7 letters
placed_7 = (refl, refl, refl, refl, refl, refl, refl, refl)

placed_8 : (place8 (bytes "") ≡ 0) × (place8 (bytes "S") ≡ 0) × (place8 (bytes "II") ≡ 1) × (place8 (bytes "ISS") ≡ 2)
unfolding place8
placed_8 = (refl, refl, refl, refl)

placed_9 : (place9 (bytes "1B707/M") ≡ 1) × (place9 (bytes "02B707/M") ≡ 0) × (place9 (bytes "100B70/M") ≡ 2) × (place9 (bytes "B/M") ≡ 1)
    × (place9 (bytes "B7070/M") ≡ 4) × (place9 (bytes "B707/J") ≡ 5) × (place9 (bytes "B707M") ≡ 4) × (place9 (bytes "12") ≡ 2) × (place9 (bytes "") ≡ 0)
unfolding place9 count_fits aircraft_place
placed_9 = (refl, refl, refl, refl, refl, refl, refl, refl, refl)
