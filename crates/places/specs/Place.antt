-- The place of a content that does not fit: the first byte at which no content that fits could go on. Assumes nothing.
use Rattle.std.specs.Prelude.{ℕ, suc, ◌<◌, ◌≤◌, ◌≡◌, Bool, true, false, List, ◌++◌, length, take}

-- no content that fits begins with the bytes of s up to and including place k
abbrev pub Hopeless : (List ℕ → Bool) → List ℕ → ℕ → Type 0
Hopeless fits s k = (t : List ℕ) → fits (take (suc k) s ++ t) ≡ false

-- some content that fits does
abbrev pub Hopeful : (List ℕ → Bool) → List ℕ → ℕ → Type 0
Hopeful fits s k = (t : List ℕ) × (fits (take (suc k) s ++ t) ≡ true)

-- p is the smallest place of s that is hopeless; its length, just behind it, where none is
pub record IsPlace (fits : List ℕ → Bool) (s : List ℕ) (p : ℕ) : Type 0 where
  pub within : p ≤ length s
  pub before : (k : ℕ) → k < p → Hopeful fits s k
  pub there : p < length s → Hopeless fits s p
