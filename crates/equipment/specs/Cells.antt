-- The bytes of the two lists of the present edition, in cells of two bytes, and of their indexes: how many codes stand before the first that begins with
-- A, B, .. Z; all of them where none does. Assumes nothing.
use Rattle.std.specs.Prelude.{ℕ, List, [], ◌∷◌}
use Rattle.alphabet.specs.Text.{bytes}

unfoldable pub equipment_cells : List ℕ
equipment_cells = bytes "A B C D E1E2E3F G H I J1J2J3J4J5J6J7K L M1M2M3O P1P2P3P4P5P6P7P8P9R S T U V W X Y Z "

unfoldable pub equipment_index : List ℕ
equipment_index =
    0 ∷ 1 ∷ 2 ∷ 3 ∷ 4 ∷ 7 ∷ 8 ∷ 9 ∷ 10 ∷ 11 ∷ 18 ∷ 19 ∷ 20 ∷ 42 ∷ 23 ∷ 24 ∷ 42 ∷ 33 ∷ 34 ∷ 35 ∷ 36 ∷ 37 ∷ 38 ∷ 39 ∷ 40 ∷ 41 ∷ []

unfoldable pub surveillance_cells : List ℕ
surveillance_cells = bytes "A C E H I L P S X B1B2U1U2V1V2D1G1"

unfoldable pub surveillance_index : List ℕ
surveillance_index =
    0 ∷ 9 ∷ 1 ∷ 15 ∷ 2 ∷ 17 ∷ 16 ∷ 3 ∷ 4 ∷ 17 ∷ 17 ∷ 5 ∷ 17 ∷ 17 ∷ 17 ∷ 6 ∷ 17 ∷ 17 ∷ 7 ∷ 17 ∷ 11 ∷ 13 ∷ 17 ∷ 8 ∷ 17 ∷ 17 ∷ []
