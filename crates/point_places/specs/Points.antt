-- The place of a point of field 15, and of a word with no oblique (document 02, request 4). Assumes nothing.
use Rattle.std.specs.Prelude.{ℕ, ◌≡◌, refl, cond, List, [], ◌++◌, take}
use Rattle.alphabet.specs.Text.{bytes}
use Rattle.alphabet.specs.Alphabet.{sign}
use Rattle.text.specs.Words.{Word, split}
use Rattle.shape.specs.Shape.{letters}
use Rattle.places.specs.Parts.{larger, run_place}
use Rattle.route.specs.Levels.{each}
use Rattle.route.specs.Points.{out_of_range}
use Rattle.point_places.specs.Rows.{rows_place}

-- COORDINATES: latitude, N or S, longitude, E or W

unfoldable pub short_rows : List Word
short_rows = each (split 32 (bytes "89n 90n")) (split 32 (bytes "099e 179e 180e"))

-- with minutes, which are 00 at the most degrees
unfoldable pub long_rows : List Word
long_rows = each (split 32 (bytes "8959n 9000n")) (split 32 (bytes "09959e 17959e 18000e"))

-- POINTS WITH BEARING: 2 to 5 signs, a bearing of at most 360, a distance

abbrev pub polar_rows : List Word
polar_rows = split 32 (bytes "299999 359999 360999")

unfoldable pub bearing_rows : List Word
bearing_rows = each (split 32 (bytes "xx xxx xxxx xxxxx")) polar_rows

-- what is longer than a name
unfoldable pub beyond_rows : List Word
beyond_rows = long_rows ++ bearing_rows

-- A POINT BEFORE AN OBLIQUE: a name there has at most 5 signs

unfoldable pub point_place : Word → ℕ
point_place w = larger (run_place 5 sign w) (larger (rows_place short_rows w) (rows_place beyond_rows w))

-- A WORD WITH NO OBLIQUE: up to 7 signs, but a coordinate's shape out of range is refused at its last byte

unfoldable pub name_place : Word → ℕ
name_place w = cond (out_of_range (take 7 w)) 6 (run_place 7 sign w)

unfoldable pub plain_place : Word → ℕ
plain_place w = larger (name_place w) (rows_place beyond_rows w)

-- EXAMPLES, computed

plain : List ℕ → ℕ → Type 0
plain w p = plain_place w ≡ p

placed_plain : (plain (bytes "ABCDEFGH") 7 × plain (bytes "ABCDEF/") 6 × plain (bytes "C") 1 × plain [] 0)
    × (plain (bytes "91N078W") 6 × plain (bytes "46N181W") 6 × plain (bytes "46N078WX") 7)
    × (plain (bytes "9001N07805W") 10 × plain (bytes "9000N18001W") 10 × plain (bytes "8960N") 5 × plain (bytes "1234N12345") 10)
    × (plain (bytes "FOJ361040") 9 × plain (bytes "FOJ1800401") 10 × plain (bytes "ABCDE361") 7 × plain (bytes "1234567890") 8)
unfolding plain plain_place name_place beyond_rows long_rows bearing_rows out_of_range letters
placed_plain = ((refl, refl, refl, refl), (refl, refl, refl), (refl, refl, refl, refl), (refl, refl, refl, refl))

placed_point : (point_place (bytes "ABCDEF") ≡ 5) × (point_place (bytes "46N078WX") ≡ 7) × (point_place (bytes "46N181W") ≡ 6)
unfolding point_place short_rows beyond_rows long_rows bearing_rows letters
placed_point = (refl, refl, refl)
