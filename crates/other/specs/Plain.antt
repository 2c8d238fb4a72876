-- Text words with one space between them, told byte by byte. Assumes nothing.
use Rattle.std.specs.Prelude.{ℕ, ◌≡◌, refl, Bool, true, false, ◌&&◌, ◌||◌, not, List, eqb}
use Rattle.alphabet.specs.Text.{bytes}
use Rattle.alphabet.specs.Alphabet.{text, in_alphabet, white}
use Rattle.text.specs.Pairs.{all_pairs}

-- whether b just before c may stand among them: it is a byte of a text word, or a space that is not just before another
abbrev pub plain : ℕ → ℕ → Bool
plain b c = text b || (eqb b 32 && not (eqb c 32))

-- whether each byte but the last may
abbrev pub all_plain : List ℕ → Bool
all_plain s = all_pairs plain s

-- EXAMPLES, computed

plain_bytes : (all_plain (bytes " AS,FILED 2+4 ") ≡ true) × (all_plain (bytes "A  B") ≡ false)
    × (all_plain (bytes "A REG/B") ≡ false) × (all_plain (bytes "A REG/") ≡ true)
unfolding all_pairs text in_alphabet white
plain_bytes = (refl, refl, refl, refl)
