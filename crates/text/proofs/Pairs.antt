-- A test of each byte with the one behind it, gathered: `fine` says it of the bytes before i. Assumes nothing.
use Prim.Native.Nat.{ℕ, ◌+◌, ◌-◌, ◌<◌, ◌≤◌}
use mathlib.Core.Path.{◌≡◌, refl, sym}
use mathlib.Core.Bool.{Bool, true, ◌&&◌, and_assoc, and-true}
use mathlib.Core.List.{List, [], ◌∷◌}
use native.Mathlib.Omega.{arith}
use lib.ListN.{length, drop, get_or, length-drop}
use Rattle.text.specs.Pairs.{all_pairs}
use Rattle.text.proofs.Index.{drop_here}

module _ (f : ℕ → ℕ → Bool) where
  short_pairs : (s : List ℕ) → length s ≤ 1 → all_pairs f s ≡ true
  unfolding all_pairs
  short_pairs [] h = refl
  short_pairs (b ∷ []) h = refl
  short_pairs (b ∷ (c ∷ s)) h = absurd (omega arith)

  module _ (s : List ℕ) (i : ℕ) (fine : Bool) where
    pub pairs_next : (r : Bool) → 0 < i → i < length s → r ≡ f (get_or s (i - 1) 0) (get_or s i 0)
        → (fine && r) && all_pairs f (drop (i + 1 - 1) s) ≡ fine && all_pairs f (drop (i - 1) s)
    unfolding all_pairs
    pairs_next r z h e =
        let k : i - 1 + 1 ≡ i = omega arith in
        let n : i + 1 - 1 ≡ i = omega arith in
        let l : i - 1 < length s = omega arith in
        rw (e, n, drop_here s (i - 1) l, k, drop_here s i h) (and_assoc fine _ _)

    pub pairs_end : 0 < i → length s ≤ i → fine ≡ fine && all_pairs f (drop (i - 1) s)
    pairs_end z h = rw (short_pairs (drop (i - 1) s) (rw length-drop (omega arith))) (sym (and-true fine))
