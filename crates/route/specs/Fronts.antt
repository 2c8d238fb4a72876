-- Field 15: parts of a word as the code looks for them: a speed or a level at the front, by its letter, and a coordinate, by its digits. They say
-- nothing of what fits: that they are the parts which the shapes have is in proofs/Fronts.antt and proofs/Digits.antt. Assumes nothing.
use Rattle.std.specs.Prelude.{ℕ, suc, ◌-◌, ◌≡◌, refl, Bool, true, false, ◌&&◌, cond, List, [], ◌∷◌, ◌++◌, ltb, length, take, drop, get_or}
use Rattle.alphabet.specs.Text.{bytes}
use Rattle.alphabet.specs.Alphabet.{digit, one_of}
use Rattle.text.specs.Words.{Word, all}
use Rattle.shape.specs.Shape.{copies, wide}
use Rattle.route.specs.Levels.{speed_digits, level_digits, letter_of}
use Rattle.route.specs.Points.{short, long}

-- whether w begins with a byte and n digits, which are one or more
unfoldable pub begins : ℕ → Word → Bool
begins n w = ltb 0 n && (ltb n (length w) && all digit (take n (drop 1 w)))

-- where they end; 0 where it does not begin with them
unfoldable pub unit_end : ℕ → Word → ℕ
unit_end n w = cond (begins n w) (suc n) 0

abbrev pub speed_end : Word → ℕ
speed_end w = unit_end (speed_digits (letter_of w)) w

abbrev pub level_end : Word → ℕ
level_end w = unit_end (level_digits (letter_of w)) w

-- whether a word is digits and, last, one of some letters
unfoldable pub half_fits : List ℕ → Word → Bool
half_fits ls w = all digit (take (length w - 1) w) && one_of (get_or w (length w - 1) 0) ls

-- the shape of k digits, N or S, j digits and E or W
abbrev pub coordinate_shape : ℕ → ℕ → Word
coordinate_shape k j = copies k ++ (110 ∷ (copies j ++ (101 ∷ [])))

-- EXAMPLES, computed

speed_ends : (speed_end (bytes "N0440F310") ≡ 5) × (speed_end (bytes "M082F310") ≡ 4) × (speed_end (bytes "M82F310") ≡ 0) × (speed_end (bytes "") ≡ 0)
unfolding unit_end begins speed_digits
speed_ends = (refl, refl, refl, refl)

level_ends : (level_end (bytes "F310PLUS") ≡ 4) × (level_end (bytes "S1130") ≡ 5) × (level_end (bytes "VFR") ≡ 0)
unfolding unit_end begins level_digits
level_ends = (refl, refl, refl)

halves : (half_fits (bytes "NS") (bytes "46N") ≡ true) × (half_fits (bytes "NS") (bytes "46E") ≡ false) × (half_fits (bytes "NS") (bytes "4XN") ≡ false)
unfolding half_fits
halves = (refl, refl, refl)

coordinates : (coordinate_shape 2 3 ≡ wide short) × (coordinate_shape 4 5 ≡ wide long)
coordinates = (refl, refl)
