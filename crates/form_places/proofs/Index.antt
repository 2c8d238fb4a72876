-- The place of an entry where the code stands. Assumes nothing.
use Prim.Native.Nat.{ℕ, zero, suc, ◌-◌, ◌≤◌}
use mathlib.Core.Path.{◌≡◌}
use mathlib.Core.List.{List, [], ◌∷◌}
use native.Mathlib.Omega.{arith}
use lib.ListN.{length, get_or}
use Rattle.equipment_places.proofs.Places.{placed10}
use Rattle.head_places.proofs.Places.{placed7, placed8, placed9}
use Rattle.aerodromes_places.proofs.Places.{placed13, placed16plan}
use Rattle.route_places.proofs.Places.{placed15}
use Rattle.other.specs.Rules.{base}
use Rattle.other_places.specs.Places.{place18}
use Rattle.other_places.proofs.Places.{placed18}
use Rattle.form_places.specs.Places.{places_named, place_named}

-- A PLACE IS WITHIN ITS CONTENT

data Within : List (List ℕ → ℕ) → Type 0 where
  no_more : Within []
  also : {p : List ℕ → ℕ} {ps : List (List ℕ → ℕ)} → ((w : List ℕ) → p w ≤ length w) → Within ps → Within (p ∷ ps)

all_within : Within places_named
all_within =
    also (λ w. (placed7 w).within)
    (also (λ w. (placed8 w).within)
    (also (λ w. (placed9 w).within)
    (also (λ w. (placed10 w).within)
    (also (λ w. (placed13 w).within)
    (also (λ w. (placed15 w).within)
    (also (λ w. (placed16plan w).within)
    (also (λ w. (placed18 w).within)
    no_more)))))))

nth_within : (ps : List (List ℕ → ℕ)) → Within ps → (n : ℕ) (w : List ℕ) → get_or ps n (place18 base) w ≤ length w
nth_within [] no_more n w = (placed18 w).within
nth_within (p ∷ ps) (also h hs) zero w = h w
nth_within (p ∷ ps) (also h hs) (suc n) w = nth_within ps hs n w

pub named_within : (n : ℕ) (w : List ℕ) → place_named n w ≤ length w
named_within n w = nth_within places_named all_within (n - 1) w

-- the last rank
module _ (k : ℕ) where
  from_four : 1 ≤ k → (k ≡ 1 → ⊥) → (k ≡ 2 → ⊥) → (k ≡ 3 → ⊥) → 4 ≤ k
  from_four l a b c = omega arith

  from_six : 4 ≤ k → (k ≡ 4 → ⊥) → (k ≡ 5 → ⊥) → 6 ≤ k
  from_six l a b = omega arith

  eight : 6 ≤ k → k ≤ 8 → (k ≡ 6 → ⊥) → (k ≡ 7 → ⊥) → k ≡ 8
  eight l m a b = omega arith

  pub the_last : 1 ≤ k → k ≤ 8 → (k ≡ 1 → ⊥) → (k ≡ 2 → ⊥) → (k ≡ 3 → ⊥) → (k ≡ 4 → ⊥) → (k ≡ 5 → ⊥) → (k ≡ 6 → ⊥) → (k ≡ 7 → ⊥) → k ≡ 8
  the_last l m a b c d e f g = eight (from_six (from_four l a b c) d e) m f g
