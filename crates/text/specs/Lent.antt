-- What a lent slice holds after a part was written to it. Assumes nothing.
use Rattle.std.specs.Prelude.{ℕ, ◌≡◌, refl, List, ◌++◌, length, drop}
use Rattle.alphabet.specs.Text.{bytes}

-- w at the front, the bytes behind it as they were
unfoldable pub front : List ℕ → List ℕ → List ℕ
front w out = w ++ drop (length w) out

-- EXAMPLE, computed

in_front_lem : front (bytes "AB") (bytes "....") ≡ bytes "AB.."
unfolding front
in_front_lem = refl
