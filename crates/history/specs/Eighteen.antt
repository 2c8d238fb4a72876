-- Field 18 as two parts (document 02, request 5), the date and all other items, and the field that the two make. Assumes nothing.
use Rattle.std.specs.Prelude.{ℕ, ◌≡◌, refl, Bool, not, cond, List, [], ◌∷◌, ◌++◌, ltb}
use Rattle.alphabet.specs.Text.{bytes}
use Rattle.text.specs.Words.{Word, split, join, null, same}
use Rattle.other.specs.Rules.{base, rank_in}
use Rattle.other.specs.Field18.{Worded, spelt, group}

abbrev pub date_key : Word
date_key = bytes "DOF"

-- those of which a test holds, in their order
abbrev pub only : {A : Type 0} → (A → Bool) → List A → List A
only p [] = []
only p (x ∷ xs) = let rest = only p xs in cond (p x) (x ∷ rest) rest

-- THE PARTS: what stands under DOF, and the items of other keys as they stand; each is empty where there is none

abbrev pub items_in : List ℕ → List Worded
items_in s = (group (split 32 s)).grouped

abbrev pub of_date : Worded → Bool
of_date i = same i.key date_key

abbrev pub other_key : Worded → Bool
other_key i = not (of_date i)

abbrev pub words_of_first : List Worded → Word
words_of_first [] = []
words_of_first (i ∷ is) = join 32 (i.first ∷ i.more)

unfoldable pub date_told : List ℕ → Word
date_told s = words_of_first (only of_date (items_in s))

unfoldable pub other_items : List ℕ → List ℕ
other_items s = join 32 (spelt (only other_key (items_in s)))

-- THE FIELD THAT THEY MAKE: the items of keys before DOF, the date's, and those of keys behind it; `0` where there is none

abbrev pub earlier : Worded → Bool
earlier i = ltb (rank_in base i.key) (rank_in base date_key)

abbrev pub later : Worded → Bool
later i = ltb (rank_in base date_key) (rank_in base i.key)

abbrev pub date_items : Word → List Worded
date_items d = cond (null d) [] (record { key = date_key; first = d; more = [] } ∷ [])

abbrev pub around : Word → List Worded → List Worded
around d is = only earlier is ++ (date_items d ++ only later is)

-- `0`, or the items with a space between their words
abbrev pub content : List Worded → List ℕ
content is = cond (null is) (bytes "0") (join 32 (spelt is))

unfoldable pub eighteen : Word → List ℕ → List ℕ
eighteen d others = content (around d (items_in others))

-- EXAMPLES, computed

parts : (date_told (bytes "STS/HOSP DOF/240229 RMK/A B") ≡ bytes "240229") × (other_items (bytes "STS/HOSP DOF/240229 RMK/A B") ≡ bytes "STS/HOSP RMK/A B")
    × (date_told (bytes "RMK/A") ≡ []) × (other_items (bytes "DOF/240229") ≡ []) × (other_items (bytes "0") ≡ [])
unfolding other_items date_told
parts = (refl, refl, refl, refl, refl)

made : (eighteen (bytes "240229") (bytes "STS/HOSP RMK/A B") ≡ bytes "STS/HOSP DOF/240229 RMK/A B") × (eighteen (bytes "240229") [] ≡ bytes "DOF/240229")
    × (eighteen [] (bytes "STS/HOSP RMK/A B") ≡ bytes "STS/HOSP RMK/A B") × (eighteen [] [] ≡ bytes "0")
    × (eighteen (bytes "240229") (bytes "DEP/X") ≡ bytes "DEP/X DOF/240229") × (eighteen (bytes "240229") (bytes "REG/Y") ≡ bytes "DOF/240229 REG/Y")
unfolding eighteen base
made = (refl, refl, refl, refl, refl, refl)
