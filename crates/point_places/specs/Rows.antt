-- Rows: forms of fixed length in which a number is at most so many. Assumes nothing.
use Rattle.std.specs.Prelude.{ℕ, ◌≡◌, refl, Bool, true, false, ◌&&◌, ◌||◌, cond, List, [], ◌∷◌, leb, eqb, get_or}
use Rattle.alphabet.specs.Text.{bytes}
use Rattle.alphabet.specs.Alphabet.{digit, sign}
use Rattle.text.specs.Words.{Word, split, null, all}
use Rattle.shape.specs.Shape.{letters, in_class}
use Rattle.places.specs.Parts.{largest, first_fits, first_place}

-- A ROW is read as a shape, byte for byte, but a digit stands for every digit up to it, and x for a sign. So `179` is the numbers from 000 to 079
-- and from 100 to 179, and `099`, `179` and `180` together are the numbers up to 180.
abbrev pub meets : ℕ → ℕ → Bool
meets t b = cond (eqb t 120) (sign b) (in_class t b && cond (digit t) (leb b t) true)

abbrev pub row_fits : Word → Word → Bool
row_fits [] w = null w
row_fits (t ∷ ts) w = first_fits (meets t) (λ b. row_fits ts) w

abbrev pub any_row : List Word → Word → Bool
any_row [] w = false
any_row (t ∷ ts) w = row_fits t w || any_row ts w

-- the place: how far a word follows a row, and the row of a list that it follows farthest
abbrev pub row_place : Word → Word → ℕ
row_place [] w = 0
row_place (t ∷ ts) w = first_place (meets t) (λ b. row_place ts) w

abbrev pub rows_place : List Word → Word → ℕ
rows_place ts w = largest (λ t. row_place t w) ts

-- a word of each row
abbrev pub row_sample : Word → Word
row_sample [] = []
row_sample (t ∷ ts) = cond (digit t || eqb t 120) 48 (get_or (letters t) 0 0) ∷ row_sample ts

abbrev pub rows_sampled : List Word → Bool
rows_sampled ts = all (λ t. row_fits t (row_sample t)) ts

-- EXAMPLES, computed

abbrev up_to_180 : Word → Bool
up_to_180 w = any_row (split 32 (bytes "099 179 180")) w

numbers : (up_to_180 (bytes "099") ≡ true) × (up_to_180 (bytes "180") ≡ true) × (up_to_180 (bytes "181") ≡ false) × (up_to_180 (bytes "200") ≡ false)
numbers = (refl, refl, refl, refl)

places : (row_place (bytes "xx360") (bytes "AB361") ≡ 4) × (row_place (bytes "xx360") (bytes "AB400") ≡ 2)
places = (refl, refl)
