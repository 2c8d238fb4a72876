-- The place of a content of field 15 that does not fit (document 02, request 4). Assumes nothing.
use Rattle.std.specs.Prelude.{ℕ, ◌≡◌, refl, Bool, true, false, not, cond, List, []}
use Rattle.std.specs.Prelude.{Option, None, Some}
use Rattle.alphabet.specs.Text.{bytes}
use Rattle.text.specs.Words.{Word, split, same}
use Rattle.shape.specs.Shape.{letters, wides, any}
use Rattle.places.specs.Parts.{larger, along, farthest, cut_place}
use Rattle.places.specs.Words.{Words, words_place}
use Rattle.route.specs.Levels.{speeds, levels, starts, changes, climbs}
use Rattle.route.specs.Points.{within, radial_fits, indicators, name_fits, point_fits, out_of_range}
use Rattle.route.specs.Field15.{pair_fits, element_fits}
use Rattle.point_places.specs.Points.{short_rows, long_rows, bearing_rows, beyond_rows, point_place, name_place, plain_place}

-- A WORD: none, one or two obliques

abbrev pub pair_place : List Word → Word → ℕ
pair_place ts w = cut_place 47 (point_fits 5) point_place (farthest ts) w

abbrev pub is_c : Word → Bool
is_c w = same w (bytes "C")

unfoldable pub climb_place : Word → ℕ
climb_place w = cut_place 47 is_c (along (bytes "C")) (pair_place (wides climbs)) w

unfoldable pub element_place : Word → ℕ
element_place w = larger (plain_place w) (larger (pair_place (wides changes) w) (climb_place w))

-- FIELD 15: speed and level, a space, and words; what is known behind some words is whether the last was T, behind which none may follow

abbrev pub next_word : Word → Option Bool
next_word w = cond (same w (bytes "T")) (Some true) (cond (element_fits false w) (Some false) None)

abbrev pub route : Words
route =
    record {
      K = Bool;
      after = λ k w. cond k None (next_word w);
      final = λ k. true;
      goes = λ k. not k;
    }

abbrev pub word_place : Bool → Word → ℕ
word_place k w = cond k 0 (element_place w)

unfoldable pub route_place : List ℕ → ℕ
route_place t = words_place route word_place false (split 32 t)

unfoldable pub place15 : List ℕ → ℕ
place15 s = cut_place 32 (any (wides starts)) (farthest (wides starts)) route_place s

-- EXAMPLES, computed

-- words behind speed and level
at : List ℕ → ℕ → Type 0
at w p = element_place w ≡ p

placed_words : (at (bytes "ABCDEFGH") 7 × at (bytes "ABCDEF/") 6 × at (bytes "C") 1 × at [] 0 × at (bytes "DCT/N0440F310") 3)
    × (at (bytes "91N078W") 6 × at (bytes "46N181W") 6 × at (bytes "46N078WX") 7 × at (bytes "46N078W/N0440F310F") 17)
    × (at (bytes "9001N07805W") 10 × at (bytes "9000N18001W") 10 × at (bytes "8960N") 5 × at (bytes "1234N12345") 10)
    × (at (bytes "FOJ361040") 9 × at (bytes "FOJ1800401") 10 × at (bytes "ABCDE361") 7 × at (bytes "1234567890") 8)
    × (at (bytes "PAM/N0440VFR") 9 × at (bytes "C/PAM/N0440F310PLUX") 18 × at (bytes "C/46N078W/K") 11 × at (bytes "C/DCT/K") 5)
unfolding at element_place climb_place plain_place name_place point_place short_rows beyond_rows long_rows bearing_rows out_of_range letters changes climbs
    speeds
    levels point_fits name_fits indicators
placed_words =
    ((refl, refl, refl, refl, refl), (refl, refl, refl, refl), (refl, refl, refl, refl), (refl, refl, refl, refl), (refl, refl, refl, refl))

placed_15 : (place15 [] ≡ 0) × (place15 (bytes "N0440F310") ≡ 9) × (place15 (bytes "N0440F310 ") ≡ 10) × (place15 (bytes "N0440F310 T DCT") ≡ 11)
    × (place15 (bytes "N0440VFR A") ≡ 10) × (place15 (bytes "N0440F310 A  B") ≡ 11) × (place15 (bytes "N0440F310 DCT 46N181W") ≡ 20)
unfolding place15 route_place element_place climb_place plain_place name_place point_place short_rows beyond_rows long_rows bearing_rows out_of_range letters
    starts
    changes climbs speeds levels element_fits pair_fits point_fits radial_fits name_fits indicators within
placed_15 = (refl, refl, refl, refl, refl, refl, refl)
