-- One of some labels of one length, and what may follow it: the place. Assumes nothing.
use Prim.Native.Nat.{ℕ, suc, ◌+◌, ◌≤◌}
use mathlib.Core.Path.{◌≡◌, refl, sym, ap, ◌∙◌, subst}
use mathlib.Core.Bool.{Bool, true, false, ◌&&◌, ◌||◌, cond, and-false}
use mathlib.Core.List.{List, [], ◌∷◌, ◌++◌}
use native.Mathlib.Omega.{arith}
use native.Mathlib.Nat.{zero-add, suc-add}
use lib.Dec.{eqb}
use lib.ListN.{length, take, drop}
use borrow.Author.Tests.{eqb-true, eq-eqb}
use Rattle.text.specs.Words.{Word, all, same, elem}
use Rattle.text.proofs.Tests.{both}
use Rattle.places.specs.Place.{IsPlace}
use Rattle.places.specs.Parts.{larger, first_fits, first_place}
use Rattle.places.proofs.Larger.{larger_one, larger_second, larger_under}
use Rattle.places.proofs.Place.{place_of_language, no_place, either_place}
use Rattle.places.proofs.Leaves.{first_place_lem}
use Rattle.entries.specs.Entries.{matched, any_of}
use Rattle.entries.proofs.Entries.{same_swap}

matched_le : (l s : List ℕ) → matched l s ≤ length l
matched_le [] s = omega arith
matched_le (x ∷ l) [] = omega arith
matched_le (x ∷ l) (b ∷ s) = go (eqb x b) (matched_le l s)
  where
    go : (u : Bool) → matched l s ≤ length l → cond u (suc (matched l s)) 0 ≤ suc (length l)
    go true h = omega arith
    go false h = omega arith

-- ONE LABEL, and g behind it

module _ (g : List ℕ → Bool) (pg : List ℕ → ℕ) where
  abbrev label_fits : Word → List ℕ → Bool
  label_fits [] s = g s
  label_fits (x ∷ l) s = first_fits (λ b. eqb x b) (λ b. label_fits l) s

  abbrev label_place : Word → List ℕ → ℕ
  label_place [] s = pg s
  label_place (x ∷ l) s = first_place (λ b. eqb x b) (λ b. label_place l) s

  label_is : (l s : List ℕ) → label_fits l s ≡ (same l (take (length l) s) && g (drop (length l) s))
  label_is [] s = refl
  label_is (x ∷ l) [] = refl
  label_is (x ∷ l) (b ∷ s) = go (eqb x b) (label_is l s)
    where
      go : (u : Bool) → label_fits l s ≡ (same l (take (length l) s) && g (drop (length l) s))
          → (u && label_fits l s) ≡ ((u && same l (take (length l) s)) && g (drop (length l) s))
      go true e = e
      go false e = refl

  place_is : (l s : List ℕ) → label_place l s ≡ cond (same l (take (length l) s)) (length l + pg (drop (length l) s)) (matched l s)
  place_is [] s = sym (zero-add (pg s))
  place_is (x ∷ l) [] = refl
  place_is (x ∷ l) (b ∷ s) = go (eqb x b) (same l (take (length l) s)) (place_is l s)
    where
      go : (u v : Bool) → label_place l s ≡ cond v (length l + pg (drop (length l) s)) (matched l s)
          → cond u (suc (label_place l s)) 0 ≡ cond (u && v) (suc (length l) + pg (drop (length l) s)) (cond u (suc (matched l s)) 0)
      go true true q = ap suc q ∙ sym (suc-add (length l) (pg (drop (length l) s)))
      go true false q = ap suc q
      go false v q = refl

  -- SOME LABELS

  abbrev some_fit : List Word → List ℕ → Bool
  some_fit [] s = false
  some_fit (l ∷ ls) s = label_fits l s || some_fit ls s

  abbrev some_place : List Word → List ℕ → ℕ
  some_place [] s = 0
  some_place (l ∷ ls) s = larger (label_place l s) (some_place ls s)

  module _ (right : (s : List ℕ) → IsPlace g s (pg s)) (e : List ℕ) (ge : g e ≡ true) where
    one_fits : (l : Word) → label_fits l (l ++ e) ≡ true
    one_fits [] = ge
    one_fits (x ∷ l) = rw (eq-eqb x x refl, one_fits l)

    label_right : (l s : List ℕ) → IsPlace (label_fits l) s (label_place l s)
    label_right [] s = right s
    label_right (x ∷ l) s = first_place_lem (λ b. eqb x b) (λ b. label_fits l) (λ b. label_place l) (λ b q. label_right l) (λ b q. (l ++ e, one_fits l)) s

    some_right : (ls : List Word) (s : List ℕ) → IsPlace (some_fit ls) s (some_place ls s)
    some_right [] s = no_place s
    some_right (l ∷ ls) s = either_place (label_fits l) (some_fit ls) s (label_place l s) (some_place ls s) (label_right l s) (some_right ls s)

  -- OF n BYTES EACH

  module _ (n : ℕ) where
    abbrev sized : List Word → Bool
    sized ls = all (λ l. eqb (length l) n) ls

    any_le : (s : List ℕ) (ls : List Word) → sized ls ≡ true → any_of ls s ≤ n
    any_le s [] h = omega arith
    any_le s (l ∷ ls) h =
        let q = both (eqb (length l) n) (sized ls) h in
        let m = matched_le l s in
        let k : length l ≡ n = eqb-true (length l) n q.0 in
        larger_under (matched l s) (any_of ls s) n (omega arith) (any_le s ls q.1)

    -- the bytes that begin with one of them
    abbrev named : List Word → List ℕ → Bool
    named ls s = elem (take n s) ls && g (drop n s)

    fits_is : (s : List ℕ) (ls : List Word) → sized ls ≡ true → some_fit ls s ≡ named ls s
    fits_is s [] h = refl
    fits_is s (l ∷ ls) h =
        let q = both (eqb (length l) n) (sized ls) h in
        let k : length l ≡ n = eqb-true (length l) n q.0 in
        let first : label_fits l s ≡ (same (take n s) l && g (drop n s))
        = label_is l s ∙ ap (λ (m : ℕ). same l (take m s) && g (drop m s)) k ∙ ap (λ (b : Bool). b && g (drop n s)) (same_swap l (take n s)) in
        ap (λ (b : Bool). b || some_fit ls s) first ∙ go (same (take n s) l) (g (drop n s)) (fits_is s ls q.1)
      where
        go : (u v : Bool) → some_fit ls s ≡ (elem (take n s) ls && v) → ((u && v) || some_fit ls s) ≡ (cond u true (elem (take n s) ls) && v)
        go true true e = refl
        go true false e = e ∙ and-false (elem (take n s) ls)
        go false v e = e

    -- the place: behind the label, or how far a label is followed
    abbrev named_place : List Word → List ℕ → ℕ
    named_place ls s = cond (elem (take n s) ls) (n + pg (drop n s)) (any_of ls s)

    places_is : (s : List ℕ) (ls : List Word) → sized ls ≡ true → some_place ls s ≡ named_place ls s
    places_is s [] h = refl
    places_is s (l ∷ ls) h =
        let q = both (eqb (length l) n) (sized ls) h in
        let k : length l ≡ n = eqb-true (length l) n q.0 in
        let m = matched_le l s in
        let first : label_place l s ≡ cond (same (take n s) l) (n + pg (drop n s)) (matched l s)
        = place_is l s
        ∙ ap (λ (i : ℕ). cond (same l (take i s)) (i + pg (drop i s)) (matched l s)) k
        ∙ ap (λ (b : Bool). cond b (n + pg (drop n s)) (matched l s)) (same_swap l (take n s)) in
        ap (λ (b : ℕ). larger b (some_place ls s)) first
        ∙ ap (larger (cond (same (take n s) l) (n + pg (drop n s)) (matched l s))) (places_is s ls q.1)
        ∙ go (same (take n s) l) (elem (take n s) ls) (omega arith) (any_le s ls q.1)
      where
        there : ℕ
        there = n + pg (drop n s)

        go : (u v : Bool) → matched l s ≤ n → any_of ls s ≤ n
            → larger (cond u there (matched l s)) (cond v there (any_of ls s)) ≡ cond (cond u true v) there (larger (matched l s) (any_of ls s))
        go true true x y = larger_one there there (omega arith)
        go true false x y = larger_one there (any_of ls s) (omega arith)
        go false true x y = larger_second (matched l s) there (omega arith)
        go false false x y = refl

-- THE PLACE
pub labels_place : (g : List ℕ → Bool) (pg : List ℕ → ℕ) → ((s : List ℕ) → IsPlace g s (pg s)) → (e : List ℕ) → g e ≡ true
    → (n : ℕ) (ls : List Word) → all (λ l. eqb (length l) n) ls ≡ true
    → (s : List ℕ) → IsPlace (λ t. elem (take n t) ls && g (drop n t)) s (cond (elem (take n s) ls) (n + pg (drop n s)) (any_of ls s))
labels_place g pg right e ge n ls h s =
    subst (IsPlace (named g pg n ls) s) (places_is g pg n s ls h)
    (place_of_language (some_fit g pg ls) (named g pg n ls) (λ t. fits_is g pg n t ls h) s (some_place g pg ls s) (some_right g pg right e ge ls s))
