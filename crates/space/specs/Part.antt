-- What the reduction leaves of a part of a message. Assumes nothing.
use Rattle.std.specs.Prelude.{ℕ, zero, suc, ◌-◌, ◌≡◌, refl, Bool, cond, List, [], ◌∷◌, ◌++◌, length, get_or}
use Rattle.alphabet.specs.Text.{bytes}
use Rattle.alphabet.specs.Alphabet.{white}
use Rattle.space.specs.Reduced.{opens, closes, stands_for_run, kept}

-- what is left of the first n bytes, as `reduced_from` leaves it of all; those behind them only tell whether a run ends
unfoldable pub reduced_part : Bool → ℕ → List ℕ → List ℕ
reduced_part after zero s = []
reduced_part after (suc n) [] = []
reduced_part after (suc n) (b ∷ bs) = kept (white b) (stands_for_run after bs) b (reduced_part (cond (white b) after (opens b)) n bs)

-- the last byte, or 0 where there is none
abbrev pub last_of : List ℕ → ℕ
last_of s = get_or s (length s - 1) 0

-- what is written already, and behind it what is left of the next n bytes: of a run nothing is written before its end, so until then the byte
-- written last is the last one before the run
abbrev pub with_part : List ℕ → ℕ → List ℕ → List ℕ
with_part written n s = written ++ reduced_part (opens (last_of written)) n s

-- EXAMPLES, computed

-- a run that the part ends in, that it begins in, and that ends where it ends
parts : (with_part (bytes "(A") 3 (bytes "B \r\nC)") ≡ bytes "(AB") × (with_part (bytes "(AB") 3 (bytes "\r\nC)") ≡ bytes "(AB C")
    × (with_part (bytes "(A") 4 (bytes "B \r\nC)") ≡ bytes "(AB ")
unfolding reduced_part stands_for_run opens closes white
parts = (refl, refl, refl)

-- just after `-` it counts, also where the part begins in it
part_after_hyphen : (with_part (bytes "(A-") 2 (bytes "\n-B)") ≡ bytes "(A- -") × (with_part (bytes "(A") 2 (bytes "\n-B)") ≡ bytes "(A-")
    × (with_part (bytes "") 2 (bytes "\n-B)") ≡ bytes "-")
unfolding reduced_part stands_for_run opens closes white
part_after_hyphen = (refl, refl, refl)
