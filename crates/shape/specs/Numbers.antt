-- Numbers as digits, and back. Assumes nothing.
use Rattle.std.specs.Prelude.{ℕ, zero, suc, ◌+◌, ◌*◌, ◌-◌, ◌/◌, ◌%◌, ◌^◌, ◌≡◌, refl, [], ◌∷◌, length}
use Rattle.alphabet.specs.Text.{bytes}
use Rattle.text.specs.Words.{Word}

-- n as k digits
abbrev pub digits : ℕ → ℕ → Word
digits zero n = []
digits (suc k) n = (48 + n / 10 ^ k) ∷ digits k (n % 10 ^ k)

-- the number that digits spell
abbrev pub value : Word → ℕ
value [] = 0
value (c ∷ w) = (c - 48) * 10 ^ length w + value w

-- EXAMPLES, computed

spelled : (digits 4 930 ≡ bytes "0930") × (value (bytes "0930") ≡ 930)
spelled = (refl, refl)
