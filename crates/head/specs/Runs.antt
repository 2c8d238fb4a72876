-- A run of digits, or of other bytes, at the front of a text. Assumes nothing.
use Rattle.std.specs.Prelude.{ℕ, suc, Bool, cond, List, [], ◌∷◌}
use Rattle.std.specs.Bool.{beq}
use Rattle.alphabet.specs.Alphabet.{digit}

-- how many bytes at the front are digits, where d is true, or are none, where it is false
abbrev pub lead : Bool → List ℕ → ℕ
lead d [] = 0
lead d (b ∷ s) = cond (beq (digit b) d) (suc (lead d s)) 0
