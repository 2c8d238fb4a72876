-- A test of each byte with the one behind it. Assumes nothing.
use Rattle.std.specs.Prelude.{ℕ, ◌≡◌, refl, Bool, true, false, ◌&&◌, List, [], ◌∷◌, leb}
use Rattle.alphabet.specs.Text.{bytes}

-- whether each byte but the last passes it
unfoldable pub all_pairs : (ℕ → ℕ → Bool) → List ℕ → Bool
all_pairs f [] = true
all_pairs f (b ∷ []) = true
all_pairs f (b ∷ (c ∷ s)) = f b c && all_pairs f (c ∷ s)

-- EXAMPLES, computed

-- no byte above the next one
in_order_lem : (all_pairs leb (bytes "ABBC") ≡ true) × (all_pairs leb (bytes "ACB") ≡ false) × (all_pairs leb (bytes "A") ≡ true)
    × (all_pairs leb (bytes "") ≡ true)
unfolding all_pairs
in_order_lem = (refl, refl, refl, refl)
