-- The alphabet of a message (document 01, "Bytes and white space"), the sets of bytes that the forms name, and a class for each byte value.
-- Assumes nothing.
use Rattle.std.specs.Prelude.{ℕ, suc, ◌≡◌, refl, Bool, true, false, ◌&&◌, ◌||◌, not, cond, List, [], ◌∷◌, leb, eqb}
use Rattle.alphabet.specs.Text.{bytes}

-- whether b is one of a list of bytes
abbrev pub one_of : ℕ → List ℕ → Bool
one_of b [] = false
one_of b (x ∷ xs) = cond (eqb b x) true (one_of b xs)

-- THE SETS

abbrev pub letter : ℕ → Bool
letter b = leb 65 b && leb b 90

abbrev pub digit : ℕ → Bool
digit b = leb 48 b && leb b 57

-- a digit of an SSR code
abbrev pub octal : ℕ → Bool
octal b = leb 48 b && leb b 55

-- a letter or a digit
abbrev pub sign : ℕ → Bool
sign b = letter b || digit b

-- space, CR, LF
unfoldable pub white : ℕ → Bool
white b = one_of b (bytes " \r\n")

unfoldable pub in_alphabet : ℕ → Bool
in_alphabet b = sign b || (white b || one_of b (bytes "()-?:.,'=/+"))

-- how many bytes stand before the first that is not in the alphabet
abbrev pub known : List ℕ → ℕ
known [] = 0
known (b ∷ s) = cond (in_alphabet b) (suc (known s)) 0

-- a byte that may stand between the first parenthesis of a message and the last: of the alphabet, and no parenthesis
unfoldable pub inner_byte : ℕ → Bool
inner_byte b = in_alphabet b && not (one_of b (bytes "()"))

-- whether each byte is one
abbrev pub all_inner : List ℕ → Bool
all_inner [] = true
all_inner (b ∷ s) = inner_byte b && all_inner s

-- how many bytes stand before the first that is a parenthesis or not in the alphabet
abbrev pub inner_bytes : List ℕ → ℕ
inner_bytes [] = 0
inner_bytes (b ∷ s) = cond (inner_byte b) (suc (inner_bytes s)) 0

-- the marks of a text word
abbrev pub marks : List ℕ
marks = bytes "?:.,'=+"

-- a byte of a text word: of the alphabet, other than white space and ( ) - /
unfoldable pub text : ℕ → Bool
text b = in_alphabet b && (not (white b) && not (one_of b (bytes "()-/")))

-- THE CLASSES: 0 for a byte that is not in the alphabet, 1 a letter, 2 a digit up to 7, 3 the digits 8 and 9, from 4 on a class for each
-- mark, 13 white space, 14 and 15 the parentheses. So the sets are ranges: a digit is 2 to 3, a sign 1 to 3, a byte of a text word 1 to 10,
-- a byte that may stand between parentheses 1 to 13.

-- the place of b in a list, counted from k, or 0 where it has none
abbrev pub place_from : ℕ → ℕ → List ℕ → ℕ
place_from k b [] = 0
place_from k b (x ∷ xs) = cond (eqb b x) k (place_from (suc k) b xs)

-- the space in the list holds the place of all white space
unfoldable pub class_of : ℕ → ℕ
class_of b =
    cond (letter b) 1 (cond (octal b) 2 (cond (digit b) 3 (cond (white b) 13 (place_from 4 b (bytes "?:.,'=+/- ()")))))

-- EXAMPLES, computed

inner_bytes_lem : (inner_bytes (bytes "CNL-ABC12 \r\n)") ≡ 12) × (inner_bytes (bytes "AB(C") ≡ 2) × (inner_bytes (bytes "A*)") ≡ 1)
    × (inner_bytes (bytes "/=") ≡ 2)
unfolding inner_byte in_alphabet white
inner_bytes_lem = (refl, refl, refl, refl)
