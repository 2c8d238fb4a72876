-- Where the fields of a text end, as they are remembered. Assumes nothing.
use Rattle.std.specs.Prelude.{ℕ, zero, suc, ◌+◌, ◌≤◌, ◌<◌, ◌≡◌, refl, List, [], ◌∷◌, length, drop, get_or}
use Rattle.text.specs.Words.{split, up_to}
use Rattle.kinds.specs.Kinds.{most_fields}

-- field j begins behind the hyphen at which the one before it ends
abbrev pub start_in : List ℕ → ℕ → ℕ
start_in ends zero = 0
start_in ends (suc j) = get_or ends j 0 + 1

-- a field that begins at `at` ends at e: at the next hyphen, or at the end of the text
pub record EndAt (s : List ℕ) (at e : ℕ) : Type 0 where
  pub end : e ≡ at + up_to 45 (drop at s)
  pub inside : e ≤ length s

-- the end of every field of a text
pub record Ends (s ends : List ℕ) : Type 0 where
  pub few : length (split 45 s) ≤ most_fields
  pub known : (j : ℕ) → j < length (split 45 s) → EndAt s (start_in ends j) (get_or ends j 0)

-- while they are gathered: the first n are noted, those at the hyphens before i
pub record Noted (s ends : List ℕ) (n i : ℕ) : Type 0 where
  pub inside : i ≤ length s
  pub long : length ends ≡ most_fields
  pub few : length (split 45 s) ≤ most_fields
  -- field n reaches i at least, and the fields from it on are those that are left there
  pub reaches : start_in ends n + up_to 45 (drop (start_in ends n) s) ≡ i + up_to 45 (drop i s)
  pub left : length (split 45 s) ≡ n + length (split 45 (drop i s))
  pub known : (j : ℕ) → j < n → EndAt s (start_in ends j) (get_or ends j 0)

-- EXAMPLES, computed: of CNL-ABC12-EHAM the first field ends at 3 and the second at 9

starts : (start_in (3 ∷ (9 ∷ (14 ∷ []))) 0 ≡ 0) × (start_in (3 ∷ (9 ∷ (14 ∷ []))) 1 ≡ 4) × (start_in (3 ∷ (9 ∷ (14 ∷ []))) 2 ≡ 10)
starts = (refl, refl, refl)
