-- What the library says of a chain of iterators, in the words of a text. Assumes nothing.
use Rattle.std.proofs.Common.{arith, ℕ, ◌+◌, ◌≤◌, ◌<◌, ◌≡◌, length, Bool, true, false, List, [], ◌∷◌, Option, Some, None}
use Rattle.std.specs.Prelude.{suc, not, cond, refl, ◌&&◌, ◌||◌, eqb}
use Rattle.std.specs.List.{position_or_len, list_all, list_any, slice_split}
use Rattle.std.specs.Option.{unwrap_or, option_map_or, option_map}
use Rattle.std.specs.Str.{bytes_eq}
use lib.Dec.{ltb}
use borrow.Author.Tests.{lt-ltb, le-ltb, ltb-true, ltb-false}
use mathlib.Core.Path.{ap, sym, ◌∙◌}
use Rattle.std.proofs.lemmas.List.Recursion.{same_from_clauses}
use Rattle.alphabet.specs.Alphabet.{one_of}
use Rattle.alphabet.proofs.First.{place_found, count_found}
use Rattle.text.specs.Words.{Word, split, onto, up_to, leading, all, same, elem, rank_from, Ranked}

-- ALL AND ANY

pub all_listed : {A : Type 0} (p : A → Bool) (xs : List A) → list_all p xs ≡ all p xs
all_listed p xs = same_from_clauses (list_all p) (all p) (λ x b. p x && b) refl (λ x ys. refl) (λ x ys. refl) xs

either : (t u : Bool) → (t || u) ≡ cond t true u
either true u = refl
either false u = refl

pub one_of_listed : (b : ℕ) (set : List ℕ) → list_any (λ x. eqb b x) set ≡ one_of b set
one_of_listed b set = same_from_clauses (list_any (λ x. eqb b x)) (one_of b) (λ x t. eqb b x || t) refl (λ x ys. refl)
    (λ x ys. sym (either (eqb b x) (one_of b ys))) set

pub elem_listed : (w : Word) (vs : List Word) → list_any (λ v. same w v) vs ≡ elem w vs
elem_listed w vs = same_from_clauses (list_any (λ v. same w v)) (elem w) (λ v t. same w v || t) refl (λ x ys. refl)
    (λ x ys. sym (either (same w x) (elem w ys))) vs

-- THE PIECES

joined_on : (b : ℕ) (ws : List Word) → Rattle.std.specs.List.onto_first b ws ≡ onto b ws
joined_on b [] = refl
joined_on b (w ∷ ws) = refl

pub split_listed : (c : ℕ) (s : List ℕ) → slice_split (λ b. eqb b c) s ≡ split c s
split_listed c s = same_from_clauses (slice_split (λ b. eqb b c)) (split c) (λ b ws. cond (eqb b c) ([] ∷ ws) (onto b ws)) refl
    (λ b t. ap (λ ws. cond (eqb b c) ([] ∷ slice_split (λ b. eqb b c) t) ws) (joined_on b (slice_split (λ b. eqb b c) t))) (λ b t. refl) s

ltb_sucs : (m n : ℕ) → ltb (suc m) (suc n) ≡ ltb m n
ltb_sucs m n = go (ltb m n) refl
  where
    go : (t : Bool) → ltb m n ≡ t → ltb (suc m) (suc n) ≡ t
    go true e = let h = ltb-true m n e in lt-ltb (suc m) (suc n) (omega arith)
    go false e = let h = ltb-false m n e in le-ltb (suc m) (suc n) (omega arith)

-- THE PLACE OF A WORD, counted from k, where `position` found one

module _ (w : Word) where
  abbrev place : List Word → ℕ
  place vs = position_or_len (λ v. same w v) vs

  abbrev found_at : ℕ → ℕ → Option ℕ
  found_at p n = cond (ltb p n) (Some p) None

  numbered : (k : ℕ) (vs : List Word) → rank_from k w vs ≡ option_map_or (λ i. i + k) (found_at (place vs) (length vs)) 0
  numbered k [] = refl
  numbered k (v ∷ vs) = go (same w v) (numbered (suc k) vs)
    where
      p : ℕ
      p = place vs

      behind_one : (t : Bool) → rank_from (suc k) w vs ≡ option_map_or (λ i. i + suc k) (cond t (Some p) None) 0
          → rank_from (suc k) w vs ≡ option_map_or (λ i. i + k) (cond t (Some (suc p)) None) 0
      behind_one true e = omega (arith, e)
      behind_one false e = e

      go : (t : Bool) → rank_from (suc k) w vs ≡ option_map_or (λ i. i + suc k) (found_at p (length vs)) 0
          → cond t k (rank_from (suc k) w vs) ≡ option_map_or (λ i. i + k) (found_at (cond (not t) (1 + p) 0) (suc (length vs))) 0
      go true e = rw (lt-ltb 0 (suc (length vs)) (omega arith)) (omega arith)
      go false e =
          let o : 1 + p ≡ suc p = omega arith in
          rw (o, ltb_sucs p (length vs)) (behind_one (ltb p (length vs)) e)

  pub rank_listed : (k : ℕ) (vs : List Word) (r : Option ℕ)
      → r ≡ cond (ltb (position_or_len (λ v. same w v) vs) (length vs)) (Some (position_or_len (λ v. same w v) vs)) None
      → 0 < k → (u : Option ℕ) → u ≡ option_map (λ i. i + k) r → Ranked (rank_from k w vs) u
  rank_listed k vs r h z u e = go r u (numbered k vs ∙ ap (λ r. option_map_or (λ i. i + k) r 0) (sym h)) e
    where
      go : (r u : Option ℕ) → rank_from k w vs ≡ option_map_or (λ i. i + k) r 0 → u ≡ option_map (λ i. i + k) r → Ranked (rank_from k w vs) u
      go None u n e = rw e n
      go (Some i) u n e = rw e (omega arith, n)

-- EQUAL BYTES

pub same_listed : (a b : List ℕ) → bytes_eq a b ≡ same a b
same_listed [] [] = refl
same_listed [] (y ∷ t) = refl
same_listed (x ∷ s) [] = refl
same_listed (x ∷ s) (y ∷ t) = ap (λ e. eqb x y && e) (same_listed s t)

-- PLACES: u is what is given where `position` found r, and the length where it found none

pub leading_found : (p : ℕ → Bool) (s : List ℕ) (r : Option ℕ)
    → r ≡ cond (ltb (position_or_len (λ b. not (p b)) s) (length s)) (Some (position_or_len (λ b. not (p b)) s)) None
    → (u : ℕ) → u ≡ unwrap_or r (length s) → (u ≡ leading p s) × (u ≤ length s)
leading_found p = count_found p (leading p) refl (λ b t. refl)

pub up_to_found : (c : ℕ) (s : List ℕ) (r : Option ℕ)
    → r ≡ cond (ltb (position_or_len (λ b. eqb b c) s) (length s)) (Some (position_or_len (λ b. eqb b c) s)) None
    → (u : ℕ) → u ≡ unwrap_or r (length s) → (u ≡ up_to c s) × (u ≤ length s)
up_to_found c = place_found (λ b. eqb b c) (up_to c) refl (λ b t. refl)
