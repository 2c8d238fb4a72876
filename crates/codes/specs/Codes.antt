-- Codes joined without spaces, as in field 10 and under PBN: a code is a byte with the digit behind it, where there is one.
-- Assumes nothing.
use Rattle.std.specs.Prelude.{ℕ, suc, ◌≡◌, refl, Bool, true, false, ◌&&◌, not, cond, List, [], ◌∷◌, ◌++◌, eqb, take, get_or}
use Rattle.alphabet.specs.Text.{bytes}
use Rattle.alphabet.specs.Alphabet.{digit}
use Rattle.text.specs.Words.{Word, split, all, elem}

-- CUTTING

abbrev pub codes : List ℕ → List Word
codes [] = []
codes (c ∷ []) = (c ∷ []) ∷ []
codes (c ∷ (d ∷ s)) = cond (digit d) ((c ∷ (d ∷ [])) ∷ codes s) ((c ∷ []) ∷ codes (d ∷ s))

abbrev pub concat : List Word → List ℕ
concat [] = []
concat (w ∷ ws) = w ++ concat ws

-- TESTING: each in the list, none twice

abbrev pub codes_fit : List Word → List Word → Bool
codes_fit list [] = true
codes_fit list (w ∷ ws) = elem w list && (not (elem w ws) && codes_fit list ws)

-- a code that can be cut out again: a byte that is neither a digit nor an oblique, and at most a digit behind it
abbrev pub shaped : Word → Bool
shaped [] = false
shaped (c ∷ []) = not (digit c) && not (eqb c 47)
shaped (c ∷ (d ∷ [])) = (not (digit c) && not (eqb c 47)) && (digit d && not (eqb d 47))
shaped (c ∷ (d ∷ (x ∷ w))) = false

-- AN INDEX of a list, by the letter that a code begins with: a number for each letter, and of so many codes at the front of the list none begins with it

abbrev pub none_begins : ℕ → List Word → Bool
none_begins b ws = all (λ w. not (eqb (get_or w 0 0) b)) ws

-- for each letter from b on
abbrev pub index_from : ℕ → List ℕ → List Word → Bool
index_from b [] list = true
index_from b (n ∷ first) list = none_begins b (take n list) && index_from (suc b) first list

abbrev pub is_index : List ℕ → List Word → Bool
is_index first list = index_from 65 first list

-- EXAMPLES, computed

cut_codes : codes (bytes "SDE2FGJ1") ≡ split 32 (bytes "S D E2 F G J1")
cut_codes = refl

tried : (codes_fit (split 32 (bytes "S D E2")) (codes (bytes "SE2")) ≡ true) × (codes_fit (split 32 (bytes "S D E2")) (codes (bytes "SE")) ≡ false)
    × (codes_fit (split 32 (bytes "S D E2")) (codes (bytes "SDS")) ≡ false)
tried = (refl, refl, refl)

-- before the first code with A stands none, with B three, with C one
indexed : (is_index (0 ∷ (3 ∷ (1 ∷ []))) (split 32 (bytes "A C1 C2 B")) ≡ true) × (is_index (0 ∷ (3 ∷ (2 ∷ []))) (split 32 (bytes "A C1 C2 B")) ≡ false)
indexed = (refl, refl)
