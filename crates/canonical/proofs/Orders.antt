-- Letters put in the order of their set: they stay what they are allowed to be, are settled, and are no longer. Assumes nothing.
use Prim.Native.Nat.{ℕ, suc, ◌≤◌}
use mathlib.Core.Path.{◌≡◌, refl, sym, ap, ◌∙◌}
use mathlib.Core.Bool.{Bool, true, false, cond, ◌&&◌, not, false≢true}
use mathlib.Core.List.{List, [], ◌∷◌}
use native.Mathlib.Omega.{arith}
use lib.Dec.{leb, eqb}
use lib.ListN.{length}
use borrow.Author.Tests.{not-true, eqb-true, eqb-false, eq-eqb, ne_eqb, le-leb}
use Rattle.alphabet.specs.Alphabet.{one_of}
use Rattle.text.specs.Words.{Word, all}
use Rattle.text.proofs.Tests.{both, and_both, and_false}
use Rattle.supplement.specs.Field19.{letters_fit, some_of}
use Rattle.canonical.specs.Canonical.{sorted}

-- LETTERS

-- a letter is among the sorted ones where it is in the set and in the word
pub in_sorted : (b : ℕ) (set : List ℕ) (w : Word) → one_of b (sorted set w) ≡ (one_of b set && one_of b w)
in_sorted b [] w = refl
in_sorted b (x ∷ set) w = go (in_sorted b set w) (one_of x w) refl (eqb b x) refl
  where
    go : one_of b (sorted set w) ≡ (one_of b set && one_of b w)
        → (t : Bool) → one_of x w ≡ t → (c : Bool) → eqb b x ≡ c
        → one_of b (cond t (x ∷ sorted set w) (sorted set w)) ≡ (cond c true (one_of b set) && one_of b w)
    go ih true p true q = rw q (sym (ap (λ (n : ℕ). one_of n w) (eqb-true b x q) ∙ p))
    go ih true p false q = rw q ih
    go ih false p true q =
        let z : one_of b w ≡ false = ap (λ (n : ℕ). one_of n w) (eqb-true b x q) ∙ p in
        ih ∙ rw z (and_false (one_of b set) false refl)
    go ih false p false q = ih

-- sorted letters are those of the word
sorted_same : (set xs : List ℕ) (w : Word) → all (λ b. one_of b set) xs ≡ true → sorted xs (sorted set w) ≡ sorted xs w
sorted_same set [] w e = refl
sorted_same set (x ∷ xs) w e =
    let h = both (one_of x set) (all (λ b. one_of b set) xs) e in
    let i : one_of x (sorted set w) ≡ one_of x w = in_sorted x set w ∙ rw h.0 in
    rw (i, sorted_same set xs w h.1)

pub sorted_settled : (set : List ℕ) → all (λ b. one_of b set) set ≡ true → (w : Word) → sorted set (sorted set w) ≡ sorted set w
sorted_settled set a w = sorted_same set set w a

-- none twice, and each of the set
sorted_fit : (set xs : List ℕ) (w : Word) → letters_fit set xs ≡ true → letters_fit set (sorted xs w) ≡ true
sorted_fit set [] w e = refl
sorted_fit set (x ∷ xs) w e = go (sorted_fit set xs w g.1) (one_of x w)
  where
    h : (one_of x set ≡ true) × ((not (one_of x xs) && letters_fit set xs) ≡ true)
    h = both (one_of x set) _ e

    g : (not (one_of x xs) ≡ true) × (letters_fit set xs ≡ true)
    g = both (not (one_of x xs)) (letters_fit set xs) h.1

    go : letters_fit set (sorted xs w) ≡ true → (t : Bool) → letters_fit set (cond t (x ∷ sorted xs w) (sorted xs w)) ≡ true
    go ih true = rw (h.0, in_sorted x xs w, not-true (one_of x xs) g.0) ih
    go ih false = ih

some_bytes : (b : ℕ) (w : Word) → one_of b w ≡ true → leb 1 (length w) ≡ true
some_bytes b [] e = absurd (false≢true e)
some_bytes b (c ∷ w) e = le-leb 1 (length (c ∷ w)) (omega arith)

pub sorted_some : (set : List ℕ) → letters_fit set set ≡ true → (w : Word) → some_of set w ≡ true → some_of set (sorted set w) ≡ true
sorted_some set a [] e = absurd (false≢true e)
sorted_some set a (b ∷ w) e =
    let h = both (one_of b set) _ (both (leb 1 (length (b ∷ w))) (letters_fit set (b ∷ w)) e).1 in
    let i : one_of b (sorted set (b ∷ w)) ≡ true = in_sorted b set (b ∷ w) ∙ rw (h.0, eq-eqb b b refl) in
    and_both (leb 1 (length (sorted set (b ∷ w)))) _ (some_bytes b (sorted set (b ∷ w)) i) (sorted_fit set set (b ∷ w) a)

-- letters of one set are sorted by any order that has the set in its order

pub absent : (set : List ℕ) (x : ℕ) → one_of x set ≡ false → (w : Word) → letters_fit set w ≡ true → one_of x w ≡ false
absent set x n [] e = refl
absent set x n (b ∷ w) e = go (absent set x n w (both (not (one_of b w)) _ h.1).1) (eqb x b) refl
  where
    h : (one_of b set ≡ true) × ((not (one_of b w) && letters_fit set w) ≡ true)
    h = both (one_of b set) _ e

    go : one_of x w ≡ false → (t : Bool) → eqb x b ≡ t → cond t true (one_of x w) ≡ false
    go ih true q = absurd (false≢true (sym n ∙ ap (λ (y : ℕ). one_of y set) (eqb-true x b q) ∙ h.0))
    go ih false q = ih

sorted_twice : (order set : List ℕ) (w : Word) → letters_fit set w ≡ true → sorted order w ≡ sorted (sorted order set) w
sorted_twice [] set w e = refl
sorted_twice (x ∷ xs) set w e = go (sorted_twice xs set w e) (one_of x set) refl
  where
    go : sorted xs w ≡ sorted (sorted xs set) w → (t : Bool) → one_of x set ≡ t
        → sorted (x ∷ xs) w ≡ sorted (cond t (x ∷ sorted xs set) (sorted xs set)) w
    go ih true p = ap (λ (v : Word). cond (one_of x w) (x ∷ v) v) ih
    go ih false p = rw (absent set x p w e) ih

pub sorted_by : (order set : List ℕ) → sorted order set ≡ set → (w : Word) → some_of set w ≡ true → sorted order w ≡ sorted set w
sorted_by order set a w e =
    sorted_twice order set w (both (leb 1 (length w)) _ e).1 ∙ ap (λ (s : List ℕ). sorted s w) a

-- no more than were sent, whatever was sent

sorted_none : (set : List ℕ) → sorted set [] ≡ []
sorted_none [] = refl
sorted_none (x ∷ set) = sorted_none set

-- a letter that the set has not
sorted_miss : (xs : List ℕ) (b : ℕ) (w : Word) → one_of b xs ≡ false → sorted xs (b ∷ w) ≡ sorted xs w
sorted_miss [] b w e = refl
sorted_miss (x ∷ xs) b w e = go (sorted_miss xs b w) (eqb b x) refl e
  where
    go : (one_of b xs ≡ false → sorted xs (b ∷ w) ≡ sorted xs w)
        → (c : Bool) → eqb b x ≡ c → cond c true (one_of b xs) ≡ false → sorted (x ∷ xs) (b ∷ w) ≡ sorted (x ∷ xs) w
    go ih true p q = absurd (false≢true (sym q))
    go ih false p q = rw (ne_eqb x b (λ r. eqb-false b x p (sym r)), ih q)

-- a letter that it has once at most
sorted_more : (set xs : List ℕ) (b : ℕ) (w : Word) → letters_fit set xs ≡ true → length (sorted xs (b ∷ w)) ≤ suc (length (sorted xs w))
sorted_more set [] b w a = omega arith
sorted_more set (x ∷ xs) b w a = go (sorted_more set xs b w g.1) (eqb b x) refl
  where
    g : (not (one_of x xs) ≡ true) × (letters_fit set xs ≡ true)
    g = both (not (one_of x xs)) (letters_fit set xs) (both (one_of x set) _ a).1

    with_it : (t : Bool) → suc (length (sorted xs w)) ≤ suc (length (cond t (x ∷ sorted xs w) (sorted xs w)))
    with_it true = omega arith
    with_it false = omega arith

    without : length (sorted xs (b ∷ w)) ≤ suc (length (sorted xs w))
        → (t : Bool) → length (cond t (x ∷ sorted xs (b ∷ w)) (sorted xs (b ∷ w))) ≤ suc (length (cond t (x ∷ sorted xs w) (sorted xs w)))
    without ih true = omega arith
    without ih false = ih

    go : length (sorted xs (b ∷ w)) ≤ suc (length (sorted xs w))
        → (c : Bool) → eqb b x ≡ c → length (sorted (x ∷ xs) (b ∷ w)) ≤ suc (length (sorted (x ∷ xs) w))
    go ih true p =
        let i : b ≡ x = eqb-true b x p in
        let y : one_of b xs ≡ false = ap (λ (n : ℕ). one_of n xs) i ∙ not-true (one_of x xs) g.0 in
        rw (eq-eqb x b (sym i), sorted_miss xs b w y) (with_it (one_of x w))
    go ih false p = rw (ne_eqb x b (λ r. eqb-false b x p (sym r))) (without ih (one_of x w))

pub sorted_shorter : (set : List ℕ) → letters_fit set set ≡ true → (w : Word) → length (sorted set w) ≤ length w
sorted_shorter set a [] = omega (arith, ap length (sorted_none set))
sorted_shorter set a (b ∷ w) = let h = sorted_shorter set a w in omega (arith, sorted_more set set b w a)
