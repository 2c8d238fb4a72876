-- Programs that give another place of field 18 are wrong: the place is one number. Assumes nothing.
use Prim.Native.Nat.{ℕ, ◌+◌, ◌-◌}
use mathlib.Core.Path.{◌≡◌, refl, ◌∙◌}
use mathlib.Core.List.{List}
use native.Mathlib.Omega.{arith}
use Rattle.alphabet.specs.Text.{bytes}
use Rattle.text.specs.Words.{split}
use Rattle.places.specs.Place.{IsPlace}
use Rattle.places.specs.Words.{words_place}
use Rattle.places.proofs.Place.{place_unique}
use Rattle.other.specs.Rules.{base, statuses}
use Rattle.other.specs.Field18.{fits18}
use Rattle.other_places.specs.Places.{items, items_place, place18}
use Rattle.other_places.proofs.Places.{placed18}

abbrev Right : (List ℕ → ℕ) → Type 0
Right p = (s : List ℕ) → IsPlace fits18 s (p s)

pub only_place : (p : List ℕ → ℕ) → Right p → (s : List ℕ) → p s ≡ place18 base s
only_place p r s = place_unique fits18 s (p s) (place18 base s) (r s) (placed18 s)

-- `STS/HOSPX`: the place is 8, at the X

eight : place18 base (bytes "STS/HOSPX") ≡ 8
unfolding place18 items_place base statuses
eight = refl

-- one byte early
pub early_fails : Right (λ s. place18 base s - 1) → ⊥
early_fails r = let e = only_place (λ s. place18 base s - 1) r (bytes "STS/HOSPX") in omega (arith, eight)

-- one byte late
pub late_fails : Right (λ s. place18 base s + 1) → ⊥
late_fails r = let e = only_place (λ s. place18 base s + 1) r (bytes "STS/HOSPX") in omega (arith, eight)

-- at the beginning of the word that does not fit
abbrev word_begins : List ℕ → ℕ
word_begins s = words_place (items base) (λ k w. 0) 0 (split 32 s)

pub word_fails : Right word_begins → ⊥
word_fails r = let e : ◌≡◌ {A = ℕ} 0 8 = only_place word_begins r (bytes "STS/HOSPX") ∙ eight in omega arith
