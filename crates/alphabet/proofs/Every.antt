-- Two tests that agree at every byte value: antt computes both, one value after the other. Assumes nothing.
use mathlib.Core.Path.{◌≡◌, refl, ◌∙◌, subst, sym}
use mathlib.Core.Bool.{Bool, true, false, beq}
use Prim.Native.Nat.{ℕ, zero, suc, ◌+◌, ◌<◌}
use native.Mathlib.Nat.{add-zero, zero-add, add-suc, suc-add, le_of_suc-le-suc, not-suc-le-zero}
use lib.Dec.{T}

abbrev both : Bool → Bool → Bool
both true b = b
both false b = false

both_left : (a b : Bool) → T (both a b) → T a
both_left true b t = tt
both_left false b t = t

both_right : (a b : Bool) → T (both a b) → T b
both_right true b t = t
both_right false b t = absurd t

-- the test f passes at n numbers, from i on
abbrev every : (ℕ → Bool) → ℕ → ℕ → Bool
every f i zero = true
every f i (suc n) = both (f i) (every f (suc i) n)

from : (f : ℕ → Bool) (n i : ℕ) → T (every f i n) → (k : ℕ) → k < n → T (f (i + k))
from f zero i t k h = absurd (not-suc-le-zero h)
from f (suc n) i t zero h = subst (λ (m : ℕ). T (f m)) (sym (add-zero i)) (both_left (f i) (every f (suc i) n) t)
from f (suc n) i t (suc k) h =
    subst (λ (m : ℕ). T (f m)) (suc-add i k ∙ sym (add-suc i k))
    (from f n (suc i) (both_right (f i) (every f (suc i) n) t) k (le_of_suc-le-suc h))

beq→eq : (a b : Bool) → T (beq a b) → a ≡ b
beq→eq true true t = refl
beq→eq true false t = absurd t
beq→eq false true t = absurd t
beq→eq false false t = refl

-- whether f and g agree at every byte value
abbrev pub agreeing : (ℕ → Bool) → (ℕ → Bool) → Bool
agreeing f g = every (λ b. beq (f b) (g b)) 0 256

pub agree : (f g : ℕ → Bool) → T (agreeing f g) → (b : ℕ) → b < 256 → f b ≡ g b
agree f g t b h =
    beq→eq (f b) (g b) (subst (λ (m : ℕ). T (beq (f m) (g m))) (zero-add b) (from (λ m. beq (f m) (g m)) 256 0 t b h))
