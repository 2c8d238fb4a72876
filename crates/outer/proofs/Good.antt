-- A message is let pass exactly when it passes: 1,800 bytes at most, in its frame, no parenthesis between, each byte in the alphabet.
-- Assumes nothing.
use Rattle.std.specs.Prelude.{Ok, Err}
use Prim.Native.Nat.{ℕ, suc, ◌≤◌}
use mathlib.Core.Path.{◌≡◌, refl, ap, ◌∙◌}
use mathlib.Core.Bool.{Bool, true, false, cond, not, ◌&&◌, false≢true}
use mathlib.Core.List.{List, [], ◌∷◌, ◌++◌}
use borrow.Author.Tests.{eqb-true, ltb-false}
use lib.Dec.{eqb, ltb}
use lib.ListN.{length}
use Rattle.alphabet.specs.Alphabet.{in_alphabet}
use Rattle.text.specs.Words.{Word, all}
use Rattle.text.proofs.Tests.{both}
use Rattle.space.specs.Fields.{inner}
use Rattle.space.proofs.Frame.{frame, frame_inner, frame_of}
use Rattle.outer.specs.Outer.{closing, parens_from, parens, letters_from, or_else, outer, no_paren, Passed}
use Rattle.outer.specs.Refusal.{Checked, refusal}
use Rattle.outer.proofs.Laws.{outer_letters}

-- NUMBER 1

pub good_short : (m : List ℕ) → outer m ≡ Ok tt → length m ≤ 1800
unfolding outer
good_short m g = go (ltb 1800 (length m)) refl g
  where
    go : (t : Bool) → ltb 1800 (length m) ≡ t → cond t (Err (refusal 1 0 1800)) (or_else (parens m) (letters_from 0 m)) ≡ Ok tt → length m ≤ 1800
    go true e g = cc
    go false e g = ltb-false 1800 (length m) e

each_good : (o p : Checked) → or_else o p ≡ Ok tt → (o ≡ Ok tt) × (p ≡ Ok tt)
each_good (Ok u) p e = (refl, e)
each_good (Err r) p e = cc

good_each : (m : List ℕ) → outer m ≡ Ok tt → (parens m ≡ Ok tt) × (letters_from 0 m ≡ Ok tt)
unfolding outer
good_each m g = go (ltb 1800 (length m)) g
  where
    go : (t : Bool) → cond t (Err (refusal 1 0 1800)) (or_else (parens m) (letters_from 0 m)) ≡ Ok tt → (parens m ≡ Ok tt) × (letters_from 0 m ≡ Ok tt)
    go true g = cc
    go false g = each_good (parens m) (letters_from 0 m) g

-- NUMBER 2: behind the first `(` stand bytes that are no parentheses, and `)`

abbrev Closed : List ℕ → Type 0
Closed s = (x : Word) × (s ≡ x ++ (41 ∷ [])) × (all no_paren x ≡ true)

closed : (i : ℕ) (s : List ℕ) → parens_from i s ≡ Ok tt → Closed s
unfolding parens_from
closed i [] g = cc
closed i (b ∷ s) g = go (closed (suc i) s) (eqb b 41) (eqb b 40) refl refl g
  where
    last : (t : List ℕ) → closing i t ≡ Ok tt → t ≡ []
    last [] g = refl
    last (c ∷ cs) g = cc

    go : (parens_from (suc i) s ≡ Ok tt → Closed s) → (c o : Bool) → eqb b 41 ≡ c → eqb b 40 ≡ o
        → cond c (closing i s) (cond o (Err (refusal 2 0 i)) (parens_from (suc i) s)) ≡ Ok tt → Closed (b ∷ s)
    go ih true o p q g = ([], cc (eqb-true b 41 p, last s g), refl)
    go ih false true p q g = cc
    go ih false false p q g =
        let r = ih g in
        (b ∷ r.0, cc r.1, rw (q, p) r.2)

closes : (i : ℕ) (x : Word) → all no_paren x ≡ true → parens_from i (x ++ (41 ∷ [])) ≡ Ok tt
unfolding parens_from
closes i [] e = refl
closes i (b ∷ x) e = go (closes (suc i) x h.1) (eqb b 40) (eqb b 41) h.0
  where
    h : (no_paren b ≡ true) × (all no_paren x ≡ true)
    h = both (no_paren b) (all no_paren x) e

    go : parens_from (suc i) (x ++ (41 ∷ [])) ≡ Ok tt → (o c : Bool) → not (cond o true (cond c true false)) ≡ true
        → cond c (closing i (x ++ (41 ∷ []))) (cond o (Err (refusal 2 0 i)) (parens_from (suc i) (x ++ (41 ∷ [])))) ≡ Ok tt
    go ih true c n = absurd (false≢true n)
    go ih false true n = absurd (false≢true n)
    go ih false false n = ih

abbrev Enclosed : List ℕ → Type 0
Enclosed m = (x : Word) × (m ≡ 40 ∷ (x ++ (41 ∷ []))) × (all no_paren x ≡ true)

enclosed : (m : List ℕ) → parens m ≡ Ok tt → Enclosed m
unfolding parens
enclosed [] g = cc
enclosed (b ∷ s) g = go (eqb b 40) refl g
  where
    go : (t : Bool) → eqb b 40 ≡ t → cond t (parens_from 1 s) (Err (refusal 2 0 0)) ≡ Ok tt → Enclosed (b ∷ s)
    go true e g = let r = closed 1 s g in (r.0, cc (eqb-true b 40 e, r.1), r.2)
    go false e g = cc

-- NUMBER 3

good_letters : (i : ℕ) (s : List ℕ) → letters_from i s ≡ Ok tt → all in_alphabet s ≡ true
unfolding letters_from
good_letters i [] g = refl
good_letters i (b ∷ s) g = go (good_letters (suc i) s) (in_alphabet b) g
  where
    go : (letters_from (suc i) s ≡ Ok tt → all in_alphabet s ≡ true) → (t : Bool) → cond t (letters_from (suc i) s) (Err (refusal 3 0 i)) ≡ Ok tt
        → (t && all in_alphabet s) ≡ true
    go ih true g = ih g
    go ih false g = cc

letters_good : (i : ℕ) (s : List ℕ) → all in_alphabet s ≡ true → letters_from i s ≡ Ok tt
unfolding letters_from
letters_good i [] e = refl
letters_good i (b ∷ s) e = let h = both (in_alphabet b) (all in_alphabet s) e in rw h.0 (letters_good (suc i) s h.1)

-- TO PASS IS TO BE LET PASS

pub good_passed : (m : List ℕ) → outer m ≡ Ok tt → Passed m
good_passed m g =
    let e = good_each m g in
    let x = enclosed m e.0 in
    record {
      short = good_short m g;
      framed = rw x.1 (frame_of x.0);
      between = rw (x.1, frame_inner x.0) x.2;
      letters = good_letters 0 m e.1;
    }

opened : (x : Word) → all no_paren x ≡ true → parens (40 ∷ (x ++ (41 ∷ []))) ≡ Ok tt
unfolding parens
opened x e = closes 1 x e

pub passed_good : (m : List ℕ) → Passed m → outer m ≡ Ok tt
passed_good m p =
    let e : parens m ≡ Ok tt = ap parens (frame m p.framed) ∙ opened (inner m) p.between in
    outer_letters m p.short e ∙ letters_good 0 m p.letters
