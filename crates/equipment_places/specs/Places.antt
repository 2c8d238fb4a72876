-- The place of a content of field 10 that does not fit. Assumes nothing.
use Rattle.std.specs.Prelude.{ℕ, ◌≡◌, refl, Bool, List}
use Rattle.alphabet.specs.Text.{bytes}
use Rattle.text.specs.Words.{Word}
use Rattle.codes.specs.Codes.{codes}
use Rattle.places.specs.Parts.{larger, cut_place}
use Rattle.entries.specs.Entries.{matched}
use Rattle.code_places.specs.Codes.{codes_place}
use Rattle.equipment.specs.Field10.{Edition10, present, side_fits}

-- a side's bytes
abbrev pub side_of : List Word → ℕ → List ℕ → Bool
side_of list most s = side_fits list most (codes s)

-- N alone, or codes
unfoldable pub side_place : List Word → ℕ → List ℕ → ℕ
side_place list most s = larger (matched (bytes "N") s) (codes_place list most s)

unfoldable pub place10 : Edition10 → List ℕ → ℕ
place10 e s = cut_place 47 (side_of e.left e.most_left) (side_place e.left e.most_left) (side_place e.right e.most_right) s

-- EXAMPLES, computed

abbrev at : List ℕ → ℕ
at s = place10 present s

-- left of the oblique: E needs its digit; a code that comes twice; a code that is not listed; nothing; N and more
left_placed : (at (bytes "SE/C") ≡ 2) × (at (bytes "SDS/C") ≡ 2) × (at (bytes "SQ/C") ≡ 1) × (at (bytes "/C") ≡ 0) × (at (bytes "NS/C") ≡ 1)
unfolding place10 side_place codes_place present
left_placed = (refl, refl, refl, refl, refl)

-- right of it: no oblique; nothing; a B where both are used up; another digit; a second oblique; a byte over twenty
right_placed : (at (bytes "SD") ≡ 2) × (at (bytes "S/") ≡ 2) × (at (bytes "S/B1B2B") ≡ 6) × (at (bytes "S/B3") ≡ 3) × (at (bytes "S/C/") ≡ 3)
    × (at (bytes "S/ACEHILPSXB1B2U1U2V1V2") ≡ 21)
unfolding place10 side_place codes_place present
right_placed = (refl, refl, refl, refl, refl, refl)
