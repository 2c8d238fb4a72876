-- The hyphens of a message and of its reduction: there are as many, the j-th stays the j-th, and what stands behind it is the reduction
-- of what stood there. Assumes nothing.
use Prim.Native.Nat.{ℕ, zero, suc, ◌≤◌, ◌<◌}
use mathlib.Core.Path.{◌≡◌, refl, sym, ap, ◌∙◌}
use mathlib.Core.Bool.{Bool, true, false, cond}
use mathlib.Core.List.{List, [], ◌∷◌}
use native.Mathlib.Omega.{arith}
use lib.Dec.{eqb}
use lib.ListN.{length, get_or, take, drop}
use borrow.Author.Tests.{eqb-true}
use Rattle.alphabet.specs.Alphabet.{white}
use Rattle.text.specs.Words.{split, onto, up_to, behind}
use Rattle.space.specs.Reduced.{opens, stands_for_run, reduced_from, reduced}
use Rattle.space.specs.Hyphens.{one_more, hyphens, up_to_hyphen, place_of_hyphen, behind_hyphen}
use Rattle.space.proofs.Bytes.{hyphen_opens, white_other}

-- AS MANY

count_step : (a : Bool) (b : ℕ) (bs : List ℕ) (w s : Bool) → white b ≡ w → stands_for_run a bs ≡ s → hyphens (reduced_from a bs) ≡ hyphens bs
    → hyphens (reduced_from (opens b) bs) ≡ hyphens bs → hyphens (reduced_from a (b ∷ bs)) ≡ hyphens (b ∷ bs)
unfolding reduced_from hyphens
count_step a b bs true true ew es p q = rw (ew, es, white_other b ew) p
count_step a b bs true false ew es p q = rw (ew, es, white_other b ew) p
count_step a b bs false s ew es p q = rw (ew, q)

count_from : (a : Bool) (m : List ℕ) → hyphens (reduced_from a m) ≡ hyphens m
unfolding reduced_from hyphens
count_from a [] = refl
count_from a (b ∷ bs) = count_step a b bs (white b) (stands_for_run a bs) refl refl (count_from a bs) (count_from (opens b) bs)

pub same_count : (m : List ℕ) → hyphens (reduced m) ≡ hyphens m
unfolding reduced
same_count m = count_from false m

-- one field more than there are hyphens
pub fields_count : (m : List ℕ) → length (split 45 m) ≡ suc (hyphens m)
unfolding hyphens
fields_count [] = refl
fields_count (b ∷ m) = go (fields_count m) (eqb b 45)
  where
    longer : (ws : List (List ℕ)) (n : ℕ) → length ws ≡ suc n → length (onto b ws) ≡ suc n
    longer [] n e = omega arith
    longer (w ∷ ws) n e = e

    go : length (split 45 m) ≡ suc (hyphens m) → (t : Bool) → length (cond t ([] ∷ split 45 m) (onto b (split 45 m))) ≡ suc (one_more t (hyphens m))
    go ih true = ap suc ih
    go ih false = longer (split 45 m) (hyphens m) ih

-- BEHIND THE FIRST, reduced as what stands just after a hyphen

behind_step : (a : Bool) (b : ℕ) (bs : List ℕ) (w s h : Bool) → white b ≡ w → stands_for_run a bs ≡ s → eqb b 45 ≡ h
    → behind 45 (reduced_from a bs) ≡ reduced_from true (behind 45 bs) → behind 45 (reduced_from (opens b) bs) ≡ reduced_from true (behind 45 bs)
    → behind 45 (reduced_from a (b ∷ bs)) ≡ reduced_from true (behind 45 (b ∷ bs))
unfolding reduced_from
behind_step a b bs true true h ew es eh p q = rw (ew, es, white_other b ew) p
behind_step a b bs true false h ew es eh p q = rw (ew, es, white_other b ew) p
behind_step a b bs false s true ew es eh p q =
    let o : opens b ≡ true = ap opens (eqb-true b 45 eh) ∙ hyphen_opens in
    rw (ew, eh, o)
behind_step a b bs false s false ew es eh p q = rw (ew, eh) q

behind_from : (a : Bool) (m : List ℕ) → behind 45 (reduced_from a m) ≡ reduced_from true (behind 45 m)
unfolding reduced_from
behind_from a [] = refl
behind_from a (b ∷ bs) = behind_step a b bs (white b) (stands_for_run a bs) (eqb b 45) refl refl refl (behind_from a bs) (behind_from (opens b) bs)

-- BEHIND THE j-TH

same_from : (n : ℕ) (m : List ℕ) → behind_hyphen n (reduced_from true m) ≡ reduced_from true (behind_hyphen n m)
unfolding behind_hyphen
same_from zero m = refl
same_from (suc n) m = rw (behind_from true m) (same_from n (behind 45 m))

pub same-behind : (n : ℕ) (m : List ℕ) → behind_hyphen (suc n) (reduced m) ≡ reduced_from true (behind_hyphen (suc n) m)
unfolding behind_hyphen reduced
same-behind n m = rw (behind_from false m) (same_from n (behind 45 m))

-- WHERE THE j-TH STANDS

behind_none : (n : ℕ) → behind_hyphen n [] ≡ []
unfolding behind_hyphen
behind_none zero = refl
behind_none (suc n) = behind_none n

place_behind_from : (n : ℕ) (m : List ℕ) → drop (suc (up_to_hyphen n m)) m ≡ behind_hyphen (suc n) m
unfolding up_to_hyphen behind_hyphen
place_behind_from n [] = sym (behind_none n)
place_behind_from zero (b ∷ bs) = refl
place_behind_from (suc n) (b ∷ bs) = go (eqb b 45) (place_behind_from n bs) (place_behind_from (suc n) bs)
  where
    go : (t : Bool) → drop (suc (up_to_hyphen n bs)) bs ≡ behind_hyphen (suc n) bs → drop (suc (up_to_hyphen (suc n) bs)) bs ≡ behind_hyphen (suc (suc n)) bs
        → drop (suc (up_to_hyphen (cond t n (suc n)) bs)) bs ≡ behind_hyphen (suc n) (drop (cond t 0 (suc (up_to 45 bs))) bs)
    go true p q = p
    go false p q = q

-- what stands behind its place stands behind it
pub place_behind : (n : ℕ) (m : List ℕ) → drop (suc (place_of_hyphen (suc n) m)) m ≡ behind_hyphen (suc n) m
unfolding place_of_hyphen
place_behind n m = place_behind_from n m

-- the j-th hyphen stays the j-th, and what stands behind it is the reduction of what stood there
pub hyphen_stays : (n : ℕ) (m : List ℕ)
    → drop (suc (place_of_hyphen (suc n) (reduced m))) (reduced m) ≡ reduced_from true (drop (suc (place_of_hyphen (suc n) m)) m)
hyphen_stays n m = rw (place_behind n (reduced m), place_behind n m) (same-behind n m)

-- at its place stands a hyphen, with n hyphens before it
pub record HyphenAt (m : List ℕ) (n place : ℕ) : Type 0 where
  pub inside : place < length m
  pub hyphen : get_or m place 0 ≡ 45
  pub nth : hyphens (take place m) ≡ n

hyphen_at_first : (m : List ℕ) → 0 < hyphens m → HyphenAt m 0 (up_to 45 m)
unfolding hyphens
hyphen_at_first [] h = absurd (omega arith)
hyphen_at_first (b ∷ m) h = go (eqb b 45) refl (hyphen_at_first m) h
  where
    go : (t : Bool) → eqb b 45 ≡ t → (0 < hyphens m → HyphenAt m 0 (up_to 45 m)) → 0 < one_more t (hyphens m) → HyphenAt (b ∷ m) 0 (cond t 0 (suc (up_to 45 m)))
    go true e ih h = record { inside = omega arith; hyphen = eqb-true b 45 e; nth = refl }
    go false e ih h = let r = ih h in record { inside = omega arith; hyphen = r.hyphen; nth = rw e r.nth }

hyphen_at_from : (n : ℕ) (m : List ℕ) → n < hyphens m → HyphenAt m n (up_to_hyphen n m)
unfolding hyphens up_to_hyphen
hyphen_at_from n [] h = absurd (omega arith)
hyphen_at_from zero (b ∷ m) h = hyphen_at_first (b ∷ m) h
hyphen_at_from (suc n) (b ∷ m) h = go (eqb b 45) refl (hyphen_at_from n m) (hyphen_at_from (suc n) m) h
  where
    go : (t : Bool) → eqb b 45 ≡ t → (n < hyphens m → HyphenAt m n (up_to_hyphen n m)) → (suc n < hyphens m → HyphenAt m (suc n) (up_to_hyphen (suc n) m))
        → suc n < one_more t (hyphens m) → HyphenAt (b ∷ m) (suc n) (suc (up_to_hyphen (cond t n (suc n)) m))
    go true e p q h = let r = p (omega arith) in record { inside = omega arith; hyphen = r.hyphen; nth = rw e (ap suc r.nth) }
    go false e p q h = let r = q h in record { inside = omega arith; hyphen = r.hyphen; nth = rw e r.nth }

pub hyphen_at : (n : ℕ) (m : List ℕ) → n < hyphens m → HyphenAt m n (place_of_hyphen (suc n) m)
unfolding place_of_hyphen
hyphen_at n m h = hyphen_at_from n m h

-- where there are fewer, the length

none_first : (m : List ℕ) → hyphens m ≤ 0 → up_to 45 m ≡ length m
unfolding hyphens
none_first [] h = refl
none_first (b ∷ m) h = go (eqb b 45) (none_first m) h
  where
    go : (t : Bool) → (hyphens m ≤ 0 → up_to 45 m ≡ length m) → one_more t (hyphens m) ≤ 0 → cond t 0 (suc (up_to 45 m)) ≡ suc (length m)
    go true ih h = absurd (omega arith)
    go false ih h = ap suc (ih h)

none_from : (n : ℕ) (m : List ℕ) → hyphens m ≤ n → up_to_hyphen n m ≡ length m
unfolding hyphens up_to_hyphen
none_from n [] h = refl
none_from zero (b ∷ m) h = none_first (b ∷ m) h
none_from (suc n) (b ∷ m) h = go (eqb b 45) (none_from n m) (none_from (suc n) m) h
  where
    go : (t : Bool) → (hyphens m ≤ n → up_to_hyphen n m ≡ length m) → (hyphens m ≤ suc n → up_to_hyphen (suc n) m ≡ length m)
        → one_more t (hyphens m) ≤ suc n → suc (up_to_hyphen (cond t n (suc n)) m) ≡ suc (length m)
    go true p q h = ap suc (p (omega arith))
    go false p q h = ap suc (q h)

pub no_hyphen_at : (n : ℕ) (m : List ℕ) → hyphens m ≤ n → place_of_hyphen (suc n) m ≡ length m
unfolding place_of_hyphen
no_hyphen_at n m h = none_from n m h
