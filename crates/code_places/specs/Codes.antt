-- The place of codes joined without spaces, as in field 10 and under PBN. A digit belongs to the byte before it, so some bytes can go on where
-- they fit, or fit with one digit more. Assumes nothing.
use Rattle.std.specs.Prelude.{ℕ, ◌≡◌, refl, Bool, ◌&&◌, ◌||◌, List, [], ◌∷◌, ◌++◌, leb, length}
use Rattle.std.specs.List.{list_any}
use Rattle.alphabet.specs.Text.{bytes}
use Rattle.text.specs.Words.{Word, null, split}
use Rattle.codes.specs.Codes.{codes, codes_fit}
use Rattle.places.specs.Parts.{passes}

-- one or more codes of a list, none twice, in at most so many bytes
abbrev pub some_codes : List Word → ℕ → List ℕ → Bool
some_codes list most s = leb 1 (length s) && (leb (length s) most && codes_fit list (codes s))

-- whether some bytes fit with one of these digits behind them
abbrev pub with_digit : (List ℕ → Bool) → List ℕ → List ℕ → Bool
with_digit f p ds = list_any (λ d. f (p ++ (d ∷ []))) ds

-- there are none so far, or they fit, or they fit with one digit more
abbrev pub goes_on : List Word → ℕ → List ℕ → Bool
goes_on list most p = null p || (some_codes list most p || with_digit (some_codes list most) p (bytes "0123456789"))

unfoldable pub codes_place : List Word → ℕ → List ℕ → ℕ
codes_place list most s = passes (goes_on list most) [] s

-- EXAMPLES, computed, of the codes A, B1, B2 and C in at most five bytes

abbrev at : List ℕ → ℕ
at s = codes_place (split 32 (bytes "A B1 B2 C")) 5 s

-- B alone can go on; both Bs used up; a code that comes twice; a digit that no code has; a sixth byte; a byte that begins no code
tried : (at (bytes "B") ≡ 1) × (at (bytes "B1B2B") ≡ 4) × (at (bytes "ACA") ≡ 2) × (at (bytes "AB3") ≡ 2) × (at (bytes "A1") ≡ 1)
    × (at (bytes "B1B2AC") ≡ 5) × (at (bytes "ACB1B2") ≡ 4) × (at (bytes "AX") ≡ 1) × (at (bytes "") ≡ 0)
unfolding codes_place
tried = (refl, refl, refl, refl, refl, refl, refl, refl, refl)
