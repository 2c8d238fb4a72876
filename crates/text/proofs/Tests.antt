-- Laws of tests: of two tests together, of a test at every element, of equal bytes, of a byte of a set, of a word in a list. Assumes nothing.
use Prim.Native.Nat.{ℕ, suc, ◌<◌, zero}
use mathlib.Core.Path.{◌≡◌, refl, sym, ap, subst, ◌∙◌}
use mathlib.Core.Bool.{Bool, true, false, cond, ◌&&◌, not, false≢true}
use mathlib.Core.List.{List, [], ◌∷◌, ◌++◌}
use Rattle.std.specs.Prelude.{Option, Some, None}
use Rattle.std.specs.Option.{is_some, unwrap_or}
use native.Mathlib.Omega.{arith}
use lib.Dec.{eqb, leb}
use lib.ListN.{length, drop}
use borrow.Author.Tests.{eq-eqb, ne_eqb, eqb-true, eqb-false, leb-true, leb-false}
use Rattle.alphabet.specs.Alphabet.{one_of}
use Rattle.text.specs.Words.{Word, all, null, free, same, elem, rank_from, rank_given, Ranked}

-- TWO TESTS

pub both : (a b : Bool) → (a && b) ≡ true → (a ≡ true) × (b ≡ true)
both true b e = (refl, e)
both false b e = absurd (false≢true e)

pub and_both : (a b : Bool) → a ≡ true → b ≡ true → (a && b) ≡ true
and_both a b p q = rw (p, q)

pub and_false : (a b : Bool) → b ≡ false → (a && b) ≡ false
and_false true b e = e
and_false false b e = refl

-- exactly so many, as at least and at most as many
pub exactly : (k n : ℕ) (b : Bool) → (leb k n && (leb n k && b)) ≡ (eqb n k && b)
exactly k n b = go (leb k n) refl (leb n k) refl
  where
    go : (l : Bool) → leb k n ≡ l → (m : Bool) → leb n k ≡ m → (l && (m && b)) ≡ (eqb n k && b)
    go true e true f = let z : n ≡ k = omega (arith, leb-true k n e, leb-true n k f) in rw (eq-eqb n k z)
    go true e false f = let l : k < n = leb-false n k f in rw (ne_eqb n k (omega arith))
    go false e m f = let l : n < k = leb-false k n e in rw (ne_eqb n k (omega arith))

-- AT EVERY ELEMENT

pub all_imp : {A : Type 0} (p q : A → Bool) → ((x : A) → p x ≡ true → q x ≡ true) → (xs : List A) → all p xs ≡ true → all q xs ≡ true
all_imp p q f [] e = refl
all_imp p q f (x ∷ xs) e = let h = both (p x) (all p xs) e in rw (f x h.0) (all_imp p q f xs h.1)

pub all_append : {A : Type 0} (p : A → Bool) (v w : List A) → all p v ≡ true → all p w ≡ true → all p (v ++ w) ≡ true
all_append p [] w e f = f
all_append p (x ∷ v) w e f = let h = both (p x) (all p v) e in rw h.0 (all_append p v w h.1 f)

pub all_drop : {A : Type 0} (p : A → Bool) (n : ℕ) (w : List A) → all p w ≡ true → all p (drop n w) ≡ true
all_drop p zero w e = e
all_drop p (suc n) [] e = refl
all_drop p (suc n) (x ∷ w) e = all_drop p n w (both (p x) (all p w) e).1

-- a byte for which a test fails is not one that passes it
pub other : (p : ℕ → Bool) (c : ℕ) → p c ≡ false → (b : ℕ) → p b ≡ true → not (eqb b c) ≡ true
other p c f b t = go (eqb b c) refl
  where
    go : (e : Bool) → eqb b c ≡ e → not e ≡ true
    go true q = absurd (false≢true (sym f ∙ ap p (sym (eqb-true b c q)) ∙ t))
    go false q = refl

-- so a word of bytes that pass it is free of that byte
pub all-free : (p : ℕ → Bool) (c : ℕ) → p c ≡ false → (w : Word) → all p w ≡ true → free c w ≡ true
all-free p c f w e = all_imp p (λ b. not (eqb b c)) (other p c f) w e

-- none
pub null-nil : {A : Type 0} (w : List A) → null w ≡ true → w ≡ []
null-nil [] e = refl
null-nil (x ∷ w) e = absurd (false≢true e)

-- one or more
pub some_length : {A : Type 0} (w : List A) → 0 < length w → not (null w) ≡ true
some_length [] h = absurd (omega arith)
some_length (x ∷ w) h = refl

-- EQUAL BYTES

pub same-eq : (s t : List ℕ) → same s t ≡ true → s ≡ t
same-eq [] [] e = refl
same-eq [] (y ∷ t) e = absurd (false≢true e)
same-eq (x ∷ s) [] e = absurd (false≢true e)
same-eq (x ∷ s) (y ∷ t) e = go (same-eq s t) (eqb x y) refl e
  where
    go : (same s t ≡ true → s ≡ t) → (b : Bool) → eqb x y ≡ b → (b && same s t) ≡ true → x ∷ s ≡ y ∷ t
    go ih true p q = cc (eqb-true x y p, ih q)
    go ih false p q = absurd (false≢true q)

pub same_self : (s : List ℕ) → same s s ≡ true
same_self [] = refl
same_self (x ∷ s) = rw (eq-eqb x x refl) (same_self s)

-- bytes that are not equal
pub same_other : (s t : List ℕ) → (s ≡ t → ⊥) → same s t ≡ false
same_other s t h = go (same s t) refl
  where
    go : (b : Bool) → same s t ≡ b → b ≡ false
    go true e = absurd (h (same-eq s t e))
    go false e = refl

pub same_lengths : (s t : List ℕ) → (length s ≡ length t → ⊥) → same s t ≡ false
same_lengths s t h = same_other s t (λ e. h (ap length e))

-- A BYTE OF A SET

-- what holds of every byte of a set holds of a byte that is one of it
pub of_one : (p : ℕ → Bool) (xs : List ℕ) → all p xs ≡ true → (b : ℕ) → one_of b xs ≡ true → p b ≡ true
of_one p [] a b e = absurd (false≢true e)
of_one p (x ∷ xs) a b e = go (of_one p xs h.1 b) (eqb b x) refl e
  where
    h : (p x ≡ true) × (all p xs ≡ true)
    h = both (p x) (all p xs) a

    go : (one_of b xs ≡ true → p b ≡ true) → (c : Bool) → eqb b x ≡ c → cond c true (one_of b xs) ≡ true → p b ≡ true
    go ih true q e = ap p (eqb-true b x q) ∙ h.0
    go ih false q e = ih e

-- A WORD IN A LIST

-- what holds of every word of a list holds of a word that is one of it
pub of_elem : (p : Word → Bool) (vs : List Word) → all p vs ≡ true → (w : Word) → elem w vs ≡ true → p w ≡ true
of_elem p [] a w e = absurd (false≢true e)
of_elem p (v ∷ vs) a w e = go (of_elem p vs h.1 w) (same w v) refl e
  where
    h : (p v ≡ true) × (all p vs ≡ true)
    h = both (p v) (all p vs) a

    go : (elem w vs ≡ true → p w ≡ true) → (b : Bool) → same w v ≡ b → cond b true (elem w vs) ≡ true → p w ≡ true
    go ih true q e = ap p (same-eq w v q) ∙ h.0
    go ih false q e = ih e

-- a word of a list whose words have n bytes each has n
pub elem-length : (n : ℕ) (vs : List Word) → all (λ v. eqb (length v) n) vs ≡ true → (w : Word) → elem w vs ≡ true → length w ≡ n
elem-length n vs a w e = eqb-true (length w) n (of_elem (λ v. eqb (length v) n) vs a w e)

-- a word is one of a list exactly where it has a rank there
pub rank-elem : (k : ℕ) (w : Word) (vs : List Word) → 0 < k → not (eqb (rank_from k w vs) 0) ≡ elem w vs
rank-elem k w [] h = refl
rank-elem k w (v ∷ vs) h = go (rank-elem (suc k) w vs (omega arith)) (same w v)
  where
    go : not (eqb (rank_from (suc k) w vs) 0) ≡ elem w vs → (b : Bool) → not (eqb (cond b k (rank_from (suc k) w vs)) 0) ≡ cond b true (elem w vs)
    go ih true = ap not (ne_eqb k 0 (λ e. omega arith))
    go ih false = ih

-- so it is where the code gives its rank
pub ranked-elem : (k : ℕ) (w : Word) (vs : List Word) → 0 < k → (r : Option ℕ) → Ranked (rank_from k w vs) r → is_some r ≡ elem w vs
ranked-elem k w vs z r h = go r h ∙ rank-elem k w vs z
  where
    go : (r : Option ℕ) → Ranked (rank_from k w vs) r → is_some r ≡ not (eqb (rank_from k w vs) 0)
    go None n = rw n refl
    go (Some i) n = sym (ap not (ne_eqb (rank_from k w vs) 0 (λ e. omega (arith, n.0, n.1))))

-- what the code's rank says, and no other rank says it
pub ranked_is : (n : ℕ) (r : Option ℕ) → r ≡ rank_given n → Ranked n r
ranked_is n r e = subst (λ (r : Option ℕ). Ranked n r) (sym e) (go (eqb n 0) refl)
  where
    go : (b : Bool) → eqb n 0 ≡ b → Ranked n (cond b None (Some n))
    go true q = eqb-true n 0 q
    go false q = (omega (arith, eqb-false n 0 q), refl)

pub ranked_so : (n : ℕ) (r : Option ℕ) → Ranked n r → r ≡ rank_given n
ranked_so n None h = rw h
ranked_so n (Some k) h = rw (ne_eqb n 0 (λ e. omega (arith, h.0, h.1, e)), h.1)

-- and it is that rank, or 0
pub ranked_or : (n : ℕ) (r : Option ℕ) → Ranked n r → unwrap_or r 0 ≡ n
ranked_or n None h = sym h
ranked_or n (Some k) h = sym h.1
