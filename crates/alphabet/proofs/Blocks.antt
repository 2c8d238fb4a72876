-- Bytes told for a block of 16 of them at once. Assumes nothing.
use Prim.Native.Nat.{ℕ, zero, suc, ◌+◌, ◌-◌, ◌*◌, ◌/◌, ◌≤◌}
use mathlib.Core.Path.{◌≡◌, refl, sym, ap, ◌∙◌}
use mathlib.Core.Bool.{Bool, true, false, cond, not, ◌&&◌, false≢true}
use mathlib.Core.List.{List, [], ◌∷◌}
use native.Mathlib.Omega.{arith}
use lib.Dec.{ltb}
use lib.ListN.{length, take, drop, length-drop}
use lib.Seq.{drop-drop, take_all}
use Rattle.std.specs.Prelude.{Option, Some, None}
use Rattle.std.specs.Option.{unwrap_or}
use Rattle.std.specs.List.{position_or_len}
use Rattle.std.specs.Simd.{first_chunks}
use Rattle.std.proofs.lemmas.List.Sums.{prefix_len-le-length}
use Rattle.std.proofs.lemmas.Bool.{ltb-false}
use Rattle.alphabet.specs.Alphabet.{inner_byte, all_inner, inner_bytes}

-- WHERE THE BLOCKS END THAT PASS, of k blocks: `count` is known to go on behind a block that passes

module _ (count : List ℕ → ℕ) (pass : List ℕ → Bool)
    (over : (s : List ℕ) → 16 ≤ length s → pass (take 16 s) ≡ true → count s ≡ 16 + count (drop 16 s)) where
  pub over_blocks : (k : ℕ) (s : List ℕ) → k * 16 ≤ length s
      → (position_or_len (λ b. not (pass b)) (first_chunks 16 k s) ≤ k)
      × (count s ≡ 16 * position_or_len (λ b. not (pass b)) (first_chunks 16 k s)
      + count (drop (16 * position_or_len (λ b. not (pass b)) (first_chunks 16 k s)) s))
  over_blocks zero s h = (omega arith, omega arith)
  over_blocks (suc k) s h = go (pass (take 16 s)) refl (over_blocks k (drop 16 s) (omega (arith, length-drop 16 s)))
    where
      go : (t : Bool) → pass (take 16 s) ≡ t
          → (position_or_len (λ b. not (pass b)) (first_chunks 16 k (drop 16 s)) ≤ k)
          × (count (drop 16 s) ≡ 16 * position_or_len (λ b. not (pass b)) (first_chunks 16 k (drop 16 s))
          + count (drop (16 * position_or_len (λ b. not (pass b)) (first_chunks 16 k (drop 16 s))) (drop 16 s)))
          → (cond (not (not t)) (1 + position_or_len (λ b. not (pass b)) (first_chunks 16 k (drop 16 s))) 0 ≤ suc k)
          × (count s ≡ 16 * cond (not (not t)) (1 + position_or_len (λ b. not (pass b)) (first_chunks 16 k (drop 16 s))) 0
          + count (drop (16 * cond (not (not t)) (1 + position_or_len (λ b. not (pass b)) (first_chunks 16 k (drop 16 s))) 0) s))
      go true e ih =
          let p = position_or_len (λ b. not (pass b)) (first_chunks 16 k (drop 16 s)) in
          let n : 16 + 16 * p ≡ 16 * (1 + p) = omega arith in
          let d = drop-drop (16 * p) 16 s ∙ ap (λ (j : ℕ). drop j s) n in
          (omega (arith, ih.0), omega (arith, over s (omega arith) e, ih.1, ap count d))
      go false e ih = (omega arith, omega arith)

  -- of the blocks that a text has
  module _ (s : List ℕ) (bs : List (List ℕ)) (cut : bs ≡ first_chunks 16 (length s / 16) s) where
    pub over_all : (16 * position_or_len (λ b. not (pass b)) bs ≤ length s)
        × (count s ≡ 16 * position_or_len (λ b. not (pass b)) bs + count (drop (16 * position_or_len (λ b. not (pass b)) bs) s))
    over_all = let h = over_blocks (length s / 16) s (omega arith) in rw cut (omega (arith, h.0), h.1)

-- what `position` found is the place, and where it found none all pass
module _ {X : Type 0} (stop : X → Bool) (xs : List X) (r : Option ℕ)
    (found : r ≡ cond (ltb (position_or_len stop xs) (length xs)) (Some (position_or_len stop xs)) None) where
  pub place_some : (k : ℕ) → r ≡ Some k → k ≡ position_or_len stop xs
  place_some k e = go (ltb (position_or_len stop xs) (length xs)) (sym e ∙ found)
    where
      go : (t : Bool) → Some k ≡ cond t (Some (position_or_len stop xs)) None → k ≡ position_or_len stop xs
      go true q = cc
      go false q = cc

  pub place_none : r ≡ None → position_or_len stop xs ≡ length xs
  place_none e =
      let b : position_or_len stop xs ≤ length xs = prefix_len-le-length _ xs in
      omega (arith, b, go (ltb (position_or_len stop xs) (length xs)) refl (sym e ∙ found))
    where
      go : (t : Bool) → ltb (position_or_len stop xs) (length xs) ≡ t → None ≡ cond t (Some (position_or_len stop xs)) None → length xs ≤
          position_or_len stop xs
      go true p q = cc
      go false p q = ltb-false _ _ p

  pub place_or : (u : ℕ) → u ≡ unwrap_or r (length xs) → u ≡ position_or_len stop xs
  place_or u e = go r refl
    where
      go : (o : Option ℕ) → r ≡ o → u ≡ position_or_len stop xs
      go (Some k) q = e ∙ ap (λ (o : Option ℕ). unwrap_or o (length xs)) q ∙ place_some k q
      go None q = e ∙ ap (λ (o : Option ℕ). unwrap_or o (length xs)) q ∙ sym (place_none q)

-- A BLOCK THAT PASSES is passed at once

both : (x y : Bool) → (x && y) ≡ true → (x ≡ true) × (y ≡ true)
both true y e = (refl, e)
both false y e = absurd (false≢true e)

pub over_inner : (n : ℕ) (s : List ℕ) → n ≤ length s → all_inner (take n s) ≡ true → inner_bytes s ≡ n + inner_bytes (drop n s)
over_inner zero s h e = omega arith
over_inner (suc n) [] h e = absurd (omega arith)
over_inner (suc n) (b ∷ s) h e =
    let t = both (inner_byte b) (all_inner (take n s)) e in
    rw t.0 (omega (arith, over_inner n s (omega arith) t.1))

all-behind : (n : ℕ) (s : List ℕ) → all_inner s ≡ true → all_inner (drop n s) ≡ true
all-behind zero s e = e
all-behind (suc n) [] e = refl
all-behind (suc n) (b ∷ s) e = all-behind n s (both (inner_byte b) (all_inner s) e).1

all_counted : (s : List ℕ) → all_inner s ≡ true → inner_bytes s ≡ length s
all_counted [] e = refl
all_counted (b ∷ s) e = let t = both (inner_byte b) (all_inner s) e in rw t.0 (ap suc (all_counted s t.1))

-- what Rattle says of `&s[i..]`
rest : (s : List ℕ) (i : ℕ) → take (length s - i) (drop i s) ≡ drop i s
rest s i = take_all (length s - i) (drop i s) (rw length-drop (omega arith))

module _ (s : List ℕ) (i : ℕ) where
  pub inner_block : 16 ≤ length s - i → all_inner (take (i + 16 - i) (drop i s)) ≡ true → inner_bytes (drop i s) ≡ 16 + inner_bytes (drop (i + 16) s)
  inner_block h e =
      let n : i + 16 - i ≡ 16 = omega arith in
      rw (← drop-drop 16 i s) (over_inner 16 (drop i s) (rw length-drop h) (rw n at e))

  -- the bytes from i on are among the last, from `at` on, which all pass
  pub inner_last : (at : ℕ) → at ≤ i → i ≤ length s → all_inner (take (length s - at) (drop at s)) ≡ true → i + inner_bytes (drop i s) ≡ length s
  inner_last at h l e =
      let k : at + (i - at) ≡ i = omega arith in
      let d : drop (i - at) (drop at s) ≡ drop i s = drop-drop (i - at) at s ∙ ap (λ (j : ℕ). drop j s) k in
      let c = all_counted (drop i s) (rw d at (all-behind (i - at) (drop at s) (rw (rest s at) at e))) in
      omega (arith, c, length-drop i s)

  -- the bytes from i on were counted one by one
  pub inner_rest : (r : ℕ) → i ≤ length s → i + inner_bytes (drop i s) ≡ inner_bytes s
      → (r ≡ inner_bytes (take (length s - i) (drop i s))) × (r ≤ length (take (length s - i) (drop i s))) → (i + r ≡ inner_bytes s) × (i + r ≤ length s)
  inner_rest r l k e = (omega (arith, e.0, ap inner_bytes (rest s i)), omega (arith, e.1, ap length (rest s i), length-drop i s))
