-- Which bytes the reduction leaves as they are. Assumes nothing.
use Rattle.std.specs.Prelude.{ℕ, ◌≡◌, refl, Bool, true, false, cond, not, ◌&&◌, ◌||◌, List, [], ◌∷◌, ltb, leb, eqb}
use Rattle.alphabet.specs.Text.{bytes}
use Rattle.alphabet.specs.Alphabet.{white}
use Rattle.text.specs.Pairs.{all_pairs}
use Rattle.space.specs.Reduced.{opens, closes, stands_for_run}

-- whether b stays as it is: it is no white space, or a space that stands for its run. p: the byte before it; the list: what is behind it
abbrev pub stays : ℕ → ℕ → List ℕ → Bool
stays p b behind = cond (white b) (eqb b 32 && stands_for_run (opens p) behind) true

-- whether each byte stays as it is; p: the byte before the first
unfoldable pub all_stay : ℕ → List ℕ → Bool
all_stay p [] = true
all_stay p (b ∷ bs) = stays p b bs && all_stay b bs

-- whether a byte b just before c is sure to stay as it is, whatever stands before it: it is not below the space in the code, nor a space before
-- a byte that closes or is not above the space
abbrev pub regular : ℕ → ℕ → Bool
regular b c = not (ltb b 32 || (eqb b 32 && (leb c 32 || closes c)))

-- whether each byte but the last is
abbrev pub all_regular : List ℕ → Bool
all_regular s = all_pairs regular s

-- EXAMPLES, computed

stay : (all_stay 0 (bytes "(A B- C- -D)") ≡ true) × (all_stay 45 (bytes " -") ≡ true) × (all_stay 0 (bytes "A ") ≡ true) × (all_stay 0 (bytes "") ≡ true)
unfolding all_stay stands_for_run opens closes white
stay = (refl, refl, refl, refl)

stay_not : (all_stay 0 (bytes "A -B") ≡ false) × (all_stay 0 (bytes "A  B") ≡ false) × (all_stay 0 (bytes "A\nB") ≡ false) × (all_stay 0 (bytes "A )") ≡ false)
unfolding all_stay stands_for_run opens closes white
stay_not = (refl, refl, refl, refl)

regular_bytes : (all_regular (bytes "(A B- CD)") ≡ true) × (all_regular (bytes "- -") ≡ false) × (all_regular (bytes "A\nB") ≡ false)
unfolding all_pairs closes
regular_bytes = (refl, refl, refl)
