-- How many hyphens there are and where they stand. Field j, counted from 0, begins behind the j-th hyphen, counted from 1. Assumes nothing.
use Rattle.std.specs.Prelude.{ℕ, zero, suc, ◌≡◌, refl, Bool, cond, List, [], ◌∷◌, eqb}
use Rattle.alphabet.specs.Text.{bytes}
use Rattle.text.specs.Words.{up_to, behind}

-- one more, if so
abbrev pub one_more : Bool → ℕ → ℕ
one_more is n = cond is (suc n) n

-- how many hyphens
unfoldable pub hyphens : List ℕ → ℕ
hyphens [] = 0
hyphens (b ∷ bs) = one_more (eqb b 45) (hyphens bs)

-- how many bytes stand before the hyphen that has n hyphens before it; all of them where there is none
unfoldable pub up_to_hyphen : ℕ → List ℕ → ℕ
up_to_hyphen n [] = 0
up_to_hyphen zero (b ∷ bs) = up_to 45 (b ∷ bs)
up_to_hyphen (suc n) (b ∷ bs) = suc (up_to_hyphen (cond (eqb b 45) n (suc n)) bs)

-- the place of the j-th hyphen, counted from 1; 0 for 0, the length where there are fewer
unfoldable pub place_of_hyphen : ℕ → List ℕ → ℕ
place_of_hyphen zero m = 0
place_of_hyphen (suc n) m = up_to_hyphen n m

-- what stands behind the j-th hyphen; all of it for 0, nothing where there are fewer
unfoldable pub behind_hyphen : ℕ → List ℕ → List ℕ
behind_hyphen zero m = m
behind_hyphen (suc n) m = behind_hyphen n (behind 45 m)

-- EXAMPLES, computed

counted : (hyphens (bytes "(CNL-ABC12-EHAM)") ≡ 2) × (hyphens (bytes "CNL") ≡ 0)
unfolding hyphens
counted = (refl, refl)

placed : (place_of_hyphen 0 (bytes "(CNL-ABC12-EHAM)") ≡ 0) × (place_of_hyphen 1 (bytes "(CNL-ABC12-EHAM)") ≡ 4)
    × (place_of_hyphen 2 (bytes "(CNL-ABC12-EHAM)") ≡ 10) × (place_of_hyphen 3 (bytes "(CNL-ABC12-EHAM)") ≡ 16) × (place_of_hyphen 2 (bytes "--") ≡ 1)
unfolding place_of_hyphen up_to_hyphen
placed = (refl, refl, refl, refl, refl)

behind_placed : (behind_hyphen 1 (bytes "(CNL-ABC12-EHAM)") ≡ bytes "ABC12-EHAM)") × (behind_hyphen 3 (bytes "(CNL-ABC12-EHAM)") ≡ [])
unfolding behind_hyphen
behind_placed = (refl, refl)
