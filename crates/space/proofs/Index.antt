-- What ties the byte that stands for a run and the hyphens, which go by structure, to code that walks an index: of the hyphens, a step by what the
-- byte is, and the end.
-- Assumes nothing.
use Prim.Native.Nat.{ℕ, zero, suc, ◌+◌, ◌-◌, ◌≤◌, ◌<◌}
use mathlib.Core.Path.{◌≡◌, refl, sym, ap, ◌∙◌}
use mathlib.Core.Bool.{Bool, true, false, cond}
use mathlib.Core.List.{List, [], ◌∷◌}
use native.Mathlib.Numerals.{sub-one}
use native.Mathlib.Omega.{arith}
use lib.Dec.{eqb}
use lib.ListN.{length, get_or, take, drop}
use lib.Seq.{drop-drop}
use borrow.Author.Tests.{eq-eqb, ne_eqb}
use Rattle.alphabet.specs.Alphabet.{one_of, white}
use Rattle.text.specs.Words.{up_to}
use Rattle.text.proofs.Index.{drop_here, drop_end, rest}
use Rattle.space.specs.Reduced.{stands_for_run}
use Rattle.space.specs.Hyphens.{one_more, hyphens, up_to_hyphen, place_of_hyphen}

-- ONE OF TWO BYTES

pub first_of_two : (b x y : ℕ) → b ≡ x → true ≡ one_of b (x ∷ (y ∷ []))
first_of_two b x y e = rw (eq-eqb b x e)

pub second_of_two : (b x y : ℕ) → (b ≡ x → ⊥) → eqb b y ≡ one_of b (x ∷ (y ∷ []))
second_of_two b x y e = rw (ne_eqb b x e) (same (eqb b y))
  where
    same : (t : Bool) → t ≡ cond t true false
    same true = refl
    same false = refl

-- THE BYTE THAT STANDS FOR A RUN

-- by what is behind the byte before i, read as a part of the message
pub stands_behind : (m : List ℕ) (i : ℕ) (a r : Bool) → r ≡ stands_for_run a (take (length m - i) (drop i m)) → stands_for_run a (drop i m) ≡ r
stands_behind m i a r t = sym (t ∙ rw (rest m i))

-- before white space no byte stands for a run
pub not_before_white : (m : List ℕ) (a : Bool) (i : ℕ) → i < length m → white (get_or m i 0) ≡ true → stands_for_run a (drop i m) ≡ false
unfolding stands_for_run
not_before_white m a i h w = rw (drop_here m i h, w)

-- HYPHENS

module _ (m : List ℕ) (i : ℕ) (h : i < length m) where
  pub hyphens_here : get_or m i 0 ≡ 45 → hyphens (drop i m) ≡ suc (hyphens (drop (i + 1) m))
  unfolding hyphens
  hyphens_here e = rw (drop_here m i h, eq-eqb (get_or m i 0) 45 e)

  pub hyphens_next : (get_or m i 0 ≡ 45 → ⊥) → hyphens (drop i m) ≡ hyphens (drop (i + 1) m)
  unfolding hyphens
  hyphens_next e = rw (drop_here m i h, ne_eqb (get_or m i 0) 45 e)

  pub place_here : (n : ℕ) → n ≡ 0 → get_or m i 0 ≡ 45 → up_to_hyphen n (drop i m) ≡ 0
  unfolding up_to_hyphen
  place_here n z e = rw (z, drop_here m i h, eq-eqb (get_or m i 0) 45 e)

  pub place_past : (n : ℕ) → (n ≡ 0 → ⊥) → get_or m i 0 ≡ 45 → up_to_hyphen n (drop i m) ≡ suc (up_to_hyphen (n - 1) (drop (i + 1) m))
  unfolding up_to_hyphen
  place_past n z e = go n z
    where
      go : (k : ℕ) → (k ≡ 0 → ⊥) → up_to_hyphen k (drop i m) ≡ suc (up_to_hyphen (k - 1) (drop (i + 1) m))
      go zero z = absurd (z refl)
      go (suc k) z = rw (drop_here m i h, eq-eqb (get_or m i 0) 45 e, sub-one)

  pub place_next : (n : ℕ) → (get_or m i 0 ≡ 45 → ⊥) → up_to_hyphen n (drop i m) ≡ suc (up_to_hyphen n (drop (i + 1) m))
  unfolding up_to_hyphen
  place_next n e = go n
    where
      go : (k : ℕ) → up_to_hyphen k (drop i m) ≡ suc (up_to_hyphen k (drop (i + 1) m))
      go zero = rw (drop_here m i h, ne_eqb (get_or m i 0) 45 e) (ap suc (up (drop (i + 1) m)))
        where
          up : (s : List ℕ) → up_to 45 s ≡ up_to_hyphen zero s
          up [] = refl
          up (b ∷ s) = refl
      go (suc k) = rw (drop_here m i h, ne_eqb (get_or m i 0) 45 e)

-- as many as in a part and behind it
pub hyphens_cut : (n : ℕ) (m : List ℕ) → hyphens (take n m) + hyphens (drop n m) ≡ hyphens m
unfolding hyphens
hyphens_cut zero m = omega arith
hyphens_cut (suc n) [] = refl
hyphens_cut (suc n) (b ∷ m) = go (hyphens_cut n m) (eqb b 45)
  where
    go : hyphens (take n m) + hyphens (drop n m) ≡ hyphens m → (t : Bool) → one_more t (hyphens (take n m)) + hyphens (drop n m) ≡ one_more t (hyphens m)
    go ih true = omega arith
    go ih false = ih

pub hyphens_le : (m : List ℕ) → hyphens m ≤ length m
unfolding hyphens
hyphens_le [] = omega arith
hyphens_le (b ∷ m) = go (hyphens_le m) (eqb b 45)
  where
    go : hyphens m ≤ length m → (t : Bool) → one_more t (hyphens m) ≤ suc (length m)
    go ih true = omega arith
    go ih false = omega arith

-- counted part by part: n of them stand before i
module _ (m : List ℕ) (n i : ℕ) (counted : n + hyphens (drop i m) ≡ hyphens m) (r : ℕ) where
  pub part_counted : (e : ℕ) → i ≤ e → r ≡ hyphens (take (e - i) (drop i m)) → n + r + hyphens (drop e m) ≡ hyphens m
  part_counted e h q =
      let k : i + (e - i) ≡ e = omega arith in
      let d : drop (e - i) (drop i m) ≡ drop e m = drop-drop (e - i) i m ∙ ap (λ (j : ℕ). drop j m) k in
      omega (arith, hyphens_cut (e - i) (drop i m), ap hyphens d)

  pub rest_counted : r ≡ hyphens (take (length m - i) (drop i m)) → n + r ≡ hyphens m
  rest_counted q = omega (arith, ap hyphens (rest m i))

pub hyphens_end : (m : List ℕ) (i : ℕ) → length m ≤ i → hyphens (drop i m) ≡ 0
unfolding hyphens
hyphens_end m i h = rw (drop_end m i h)

pub place_end : (m : List ℕ) (n i : ℕ) → length m ≤ i → up_to_hyphen n (drop i m) ≡ 0
unfolding up_to_hyphen
place_end m n i h = rw (drop_end m i h)

pub place_zero : (m : List ℕ) (j : ℕ) → j ≡ 0 → place_of_hyphen j m ≡ 0
unfolding place_of_hyphen
place_zero m j e = rw e

pub place_some : (m : List ℕ) (j : ℕ) → (j ≡ 0 → ⊥) → place_of_hyphen j m ≡ up_to_hyphen (j - 1) m
unfolding place_of_hyphen
place_some m zero z = absurd (z refl)
place_some m (suc n) z = rw sub-one
