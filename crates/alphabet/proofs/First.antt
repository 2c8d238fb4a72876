-- What `position` finds is where the bytes end that pass a test, counted from the front. Assumes nothing.
use Rattle.std.proofs.Common.{rules, arith, ℕ, ◌+◌, ◌≤◌, ◌≡◌, length, Bool, true, false, List, [], ◌∷◌, Option, Some, None}
use Rattle.std.specs.Prelude.{suc, not, cond, refl}
use Rattle.std.specs.List.{position_or_len}
use Rattle.std.specs.Option.{unwrap_or}
use lib.Dec.{ltb}
use mathlib.Core.Path.{ap, sym, ◌∙◌}
use Rattle.std.proofs.lemmas.List.Recursion.{is_position_or_len}
use Rattle.std.proofs.lemmas.List.Sums.{prefix_len-le-length}
use Rattle.std.proofs.lemmas.Bool.{ltb-false}

unwrapped : (t : Bool) (p n : ℕ) → (t ≡ false → p ≡ n) → unwrap_or (cond t (Some p) None) n ≡ p
unwrapped true p n z = refl
unwrapped false p n z = sym (z refl)

-- PLACES: u is what is given where `position` found r, and the length where it found none

module _ (stop : ℕ → Bool) (place : List ℕ → ℕ) (none : place [] ≡ 0) (step : (b : ℕ) (s : List ℕ) → place (b ∷ s) ≡ cond (stop b) 0 (suc (place s))) where
  one_more : (b : Bool) (n : ℕ) → cond b 0 (suc n) ≡ cond b 0 (1 + n)
  one_more true n = search rules
  one_more false n = search rules

  pub place_found : (s : List ℕ) (r : Option ℕ)
      → r ≡ cond (ltb (position_or_len stop s) (length s)) (Some (position_or_len stop s)) None
      → (u : ℕ) → u ≡ unwrap_or r (length s) → (u ≡ place s) × (u ≤ length s)
  place_found s r h u e =
      let p = position_or_len stop s in
      let b : p ≤ length s = prefix_len-le-length _ s in
      let v : u ≡ p = e ∙ (ap (λ r. unwrap_or r (length s)) h ∙ unwrapped (ltb p (length s)) p (length s) (λ f. omega (arith, b, ltb-false p (length s) f))) in
      (v ∙ sym (is_position_or_len place stop none (λ b t. step b t ∙ one_more (stop b) (place t)) s), omega (arith, v, b))

-- where the place is the number of the bytes before it, which pass a test
module _ (test : ℕ → Bool) (count : List ℕ → ℕ) (none : count [] ≡ 0) (step : (b : ℕ) (s : List ℕ) → count (b ∷ s) ≡ cond (test b) (suc (count s)) 0) where
  swapped : (b : Bool) (n : ℕ) → cond b (suc n) 0 ≡ cond (not b) 0 (suc n)
  swapped true n = search rules
  swapped false n = search rules

  pub count_found : (s : List ℕ) (r : Option ℕ)
      → r ≡ cond (ltb (position_or_len (λ b. not (test b)) s) (length s)) (Some (position_or_len (λ b. not (test b)) s)) None
      → (u : ℕ) → u ≡ unwrap_or r (length s) → (u ≡ count s) × (u ≤ length s)
  count_found = place_found (λ b. not (test b)) count none (λ b t. step b t ∙ swapped (test b) (count t))
