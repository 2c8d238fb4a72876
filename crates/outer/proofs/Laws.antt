-- Numbers 1 to 3 at an index: where each walk stops, its next step and its end. Assumes nothing.
use Rattle.std.specs.Prelude.{Ok, Err, not}
use Prim.Native.Nat.{ℕ, suc, ◌+◌, ◌≤◌, ◌<◌}
use mathlib.Core.Path.{◌≡◌, refl, sym, ap, ◌∙◌}
use mathlib.Core.Bool.{Bool, true, false, cond, false≢true}
use mathlib.Core.List.{List, [], ◌∷◌}
use native.Mathlib.Omega.{arith}
use borrow.Author.Tests.{eqb-true, ne_eqb, lt-ltb, le-ltb}
use lib.Dec.{eqb}
use lib.ListN.{length, get_or, drop}
use Rattle.std.proofs.lemmas.Bool.Decides.{nat_tests}
use Rattle.alphabet.specs.Alphabet.{in_alphabet, known}
use Rattle.outer.specs.Outer.{closing, parens_from, parens, letters_from, no_paren, outer}
use Rattle.outer.specs.declared.Refusal.{Refusal}
use Rattle.outer.specs.Refusal.{refusal}

-- NUMBER 2

-- how many bytes stand before the first parenthesis
abbrev pub to_paren : List ℕ → ℕ
to_paren [] = 0
to_paren (b ∷ s) = cond (no_paren b) (suc (to_paren s)) 0

-- the first parenthesis is a `)`, and stands last
abbrev pub Closes : List ℕ → ℕ → Type 0
Closes s n = (n + 1 ≡ length s) × (get_or s n 0 ≡ 41)

pub parens_closed : (s : List ℕ) (i : ℕ) → Closes s (to_paren s) → parens_from i s ≡ Ok tt
unfolding parens_from
parens_closed [] i k = absurd (omega (arith, k.0))
parens_closed (b ∷ s) i k = go (parens_closed s (suc i)) (eqb b 40) (eqb b 41) refl k
  where
    last : (t : List ℕ) → 1 ≡ length (b ∷ t) → closing i t ≡ Ok tt
    last [] e = refl
    last (c ∷ t) e = absurd (omega arith)

    go : (Closes s (to_paren s) → parens_from (suc i) s ≡ Ok tt) → (o c : Bool) → eqb b 41 ≡ c
        → Closes (b ∷ s) (cond (not (cond o true (cond c true false))) (suc (to_paren s)) 0)
        → cond c (closing i s) (cond o (Err (refusal 2 0 i)) (parens_from (suc i) s)) ≡ Ok tt
    go ih o true e k = last s (grind arith)
    go ih true false e k = absurd (false≢true (sym e ∙ grind (arith, nat_tests)))
    go ih false false e k = ih (omega (arith, k.0), k.1)

pub parens_open : (s : List ℕ) (i : ℕ) → (Closes s (to_paren s) → ⊥) → parens_from i s ≡ Err (refusal 2 0 (i + to_paren s))
unfolding parens_from
parens_open [] i k = ap (λ (p : ℕ). Err (refusal 2 0 p)) (omega arith)
parens_open (b ∷ s) i k = go (parens_open s (suc i)) (eqb b 40) (eqb b 41) refl k
  where
    early : (t : List ℕ) → (Closes (41 ∷ t) 0 → ⊥) → closing i t ≡ Err (refusal 2 0 (i + 0))
    early [] n = absurd (n (refl, refl))
    early (c ∷ t) n = ap (λ (p : ℕ). Err (refusal 2 0 p)) (omega arith)

    go : ((Closes s (to_paren s) → ⊥) → parens_from (suc i) s ≡ Err (refusal 2 0 (suc i + to_paren s))) → (o c : Bool) → eqb b 41 ≡ c
        → (Closes (b ∷ s) (cond (not (cond o true (cond c true false))) (suc (to_paren s)) 0) → ⊥)
        → cond c (closing i s) (cond o (Err (refusal 2 0 i)) (parens_from (suc i) s))
        ≡ Err (refusal 2 0 (i + cond (not (cond o true (cond c true false))) (suc (to_paren s)) 0))
    go ih true true e k = early s (λ h. k (h.0, eqb-true b 41 e))
    go ih false true e k = early s (λ h. k (h.0, eqb-true b 41 e))
    go ih true false e k = ap (λ (p : ℕ). Err (refusal 2 0 p)) (omega arith)
    go ih false false e k = ih (λ h. k (omega (arith, h.0), h.1)) ∙ ap (λ (p : ℕ). Err (refusal 2 0 p)) (omega arith)

pub parens_none : (m : List ℕ) → length m ≡ 0 → parens m ≡ Err (refusal 2 0 0)
unfolding parens
parens_none [] e = refl
parens_none (b ∷ bs) e = absurd (omega arith)

pub parens_other : (m : List ℕ) → (length m ≡ 0 → ⊥) → (get_or m 0 0 ≡ 40 → ⊥) → parens m ≡ Err (refusal 2 0 0)
unfolding parens
parens_other [] n e = absurd (n refl)
parens_other (b ∷ bs) n e = rw (ne_eqb _ _ e)

pub parens_first : (m : List ℕ) → (length m ≡ 0 → ⊥) → get_or m 0 0 ≡ 40 → parens_from 1 (drop 1 m) ≡ parens m
unfolding parens
parens_first [] n e = absurd (n refl)
parens_first (b ∷ bs) n e = rw e

-- NUMBER 3: the bytes up to the first that is not in the alphabet are counted

pub letters_known : (s : List ℕ) (i n : ℕ) → n ≡ known s → n < length s → letters_from i s ≡ Err (refusal 3 0 (i + n))
unfolding letters_from
letters_known [] i n e h = absurd (omega arith)
letters_known (b ∷ s) i n e h = go (letters_known s (suc i) (known s) refl) (in_alphabet b) e
  where
    go : (known s < length s → letters_from (suc i) s ≡ Err (refusal 3 0 (suc i + known s))) → (a : Bool) → n ≡ cond a (suc (known s)) 0
        → cond a (letters_from (suc i) s) (Err (refusal 3 0 i)) ≡ Err (refusal 3 0 (i + n))
    go ih true q = ih (omega arith) ∙ ap (λ (p : ℕ). Err (refusal 3 0 p)) (omega arith)
    go ih false q = ap (λ (p : ℕ). Err (refusal 3 0 p)) (omega arith)

pub letters_all : (s : List ℕ) (i : ℕ) → length s ≤ known s → letters_from i s ≡ Ok tt
unfolding letters_from
letters_all [] i h = refl
letters_all (b ∷ s) i h = go (letters_all s (suc i)) (in_alphabet b) h
  where
    go : (length s ≤ known s → letters_from (suc i) s ≡ Ok tt) → (a : Bool) → suc (length s) ≤ cond a (suc (known s)) 0
        → cond a (letters_from (suc i) s) (Err (refusal 3 0 i)) ≡ Ok tt
    go ih true q = ih (omega arith)
    go ih false q = absurd (omega arith)

-- NUMBERS 1 TO 3

pub outer_long : (m : List ℕ) → 1800 < length m → outer m ≡ Err (refusal 1 0 1800)
unfolding outer
outer_long m h = rw (lt-ltb 1800 (length m) h)

module _ (m : List ℕ) (h : length m ≤ 1800) where
  pub outer_parens : (r : Refusal) → parens m ≡ Err r → outer m ≡ Err r
  unfolding outer
  outer_parens r e = rw (le-ltb 1800 (length m) h, e)

  pub outer_letters : parens m ≡ Ok tt → outer m ≡ letters_from 0 m
  unfolding outer
  outer_letters e = rw (le-ltb 1800 (length m) h, e)
