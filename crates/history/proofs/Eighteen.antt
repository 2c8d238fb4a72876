-- Field 18 is made of its two parts, and a content that takes a date is the date with the content's other items: what is told of field 18 and what is
-- done to it agree. Assumes nothing.
use Prim.Native.Nat.{ℕ, ◌<◌, ◌≤◌}
use mathlib.Core.Path.{◌≡◌, refl, sym, ap, ap₂, ◌∙◌}
use mathlib.Core.Bool.{Bool, true, false, cond, not, false≢true}
use mathlib.Core.List.{List, [], ◌∷◌, ◌++◌}
use native.Mathlib.Omega.{arith}
use borrow.Author.Tests.{ltb-true, lt-ltb, le-ltb}
use Rattle.text.specs.Words.{Word, join, null, same, elem}
use Rattle.text.proofs.Tests.{same_other}
use Rattle.other.specs.Rules.{base, rank_in, date}
use Rattle.other.specs.Field18.{Worded, spelt, items_fit, fits18, from_key, first_words, under, words_under}
use Rattle.other.proofs.ByKey.{standing_fit}
use Rattle.dates.specs.Dates.{dof, date_in, keys_behind, with_date}
use Rattle.dates.proofs.Dates.{Fitting, fit_parts, fit_cons, date_some}
use Rattle.dates.proofs.Items.{date_item, inserted, Side, ahead, itself, further, side, is_dof, one_day}
use Rattle.dates.proofs.Contents.{written, written_standing, standing_joined}
use Rattle.dates.proofs.With.{with_items, with_standing, with_date_lem}
use Rattle.history.specs.Eighteen.{only, items_in, of_date, other_key, words_of_first, date_told, other_items, earlier, later, date_items, around, eighteen}

-- THOSE OF WHICH A TEST HOLDS

only_only : {A : Type 0} (p q : A → Bool) → ((x : A) → p x ≡ true → q x ≡ true) → (xs : List A) → only p (only q xs) ≡ only p xs
only_only p q f [] = refl
only_only p q f (x ∷ xs) = go (only_only p q f xs) (q x) refl (p x) refl
  where
    go : only p (only q xs) ≡ only p xs → (b : Bool) → q x ≡ b → (a : Bool) → p x ≡ a
        → only p (cond b (x ∷ only q xs) (only q xs)) ≡ cond a (x ∷ only p xs) (only p xs)
    go ih true u true t = rw t (ap (λ (ys : List _). x ∷ ys) ih)
    go ih true u false t = rw t ih
    go ih false u true t = absurd (false≢true (sym u ∙ f x t))
    go ih false u false t = ih

-- items that fit still do
fit_later : (k last : ℕ) → last ≤ k → (is : List Worded) → items_fit base k is ≡ true → items_fit base last is ≡ true
fit_later k last h [] e = refl
fit_later k last h (i ∷ is) e =
    let f = fit_parts k i is e in
    fit_cons last i is (record { over = omega (arith, f.over); ruled = f.ruled; tail = f.tail })

only_fit : (p : Worded → Bool) (last : ℕ) (is : List Worded) → items_fit base last is ≡ true → items_fit base last (only p is) ≡ true
only_fit p last [] e = refl
only_fit p last (i ∷ is) e =
    let f = fit_parts last i is e in
    go f (only_fit p (rank_in base i.key) is f.tail) (p i)
  where
    go : Fitting last i is → items_fit base (rank_in base i.key) (only p is) ≡ true
        → (b : Bool) → items_fit base last (cond b (i ∷ only p is) (only p is)) ≡ true
    go f ih true = fit_cons last i (only p is) (record { over = f.over; ruled = f.ruled; tail = ih })
    go f ih false = let l : last ≤ rank_in base i.key = omega (arith, f.over) in fit_later (rank_in base i.key) last l (only p is) ih

-- ITEMS AROUND A DATE

-- those of other keys are all that matters
other_by_rank : (i : Worded) → (rank_in base i.key ≡ rank_in base dof → ⊥) → other_key i ≡ true
other_by_rank i n = ap not (same_other i.key dof (λ e. n (ap (rank_in base) e)))

earlier_other : (i : Worded) → earlier i ≡ true → other_key i ≡ true
earlier_other i t = other_by_rank i (λ e. omega (arith, ltb-true (rank_in base i.key) (rank_in base dof) t))

later_other : (i : Worded) → later i ≡ true → other_key i ≡ true
later_other i t = other_by_rank i (λ e. omega (arith, ltb-true (rank_in base dof) (rank_in base i.key) t))

around_others : (d : Word) (is : List Worded) → around d (only other_key is) ≡ around d is
around_others d is =
    ap₂ (λ (a b : List Worded). a ++ (date_items d ++ b)) (only_only earlier other_key earlier_other is) (only_only later other_key later_other is)

-- an item of a key before DOF stands first, and items of keys behind it stand last
around_first : (d : Word) (i : Worded) (is : List Worded) → rank_in base i.key < rank_in base dof → around d (i ∷ is) ≡ i ∷ around d is
around_first d i is r =
    rw (lt-ltb (rank_in base i.key) (rank_in base dof) r, le-ltb (rank_in base dof) (rank_in base i.key) (omega arith))

record Later (is : List Worded) : Type 0 where
  no_earlier : only earlier is ≡ []
  all_later : only later is ≡ is
  no_date : under dof is ≡ []

all-behind : (last : ℕ) → rank_in base dof ≤ last → (is : List Worded) → items_fit base last is ≡ true → Later is
all-behind last h [] e = record { no_earlier = refl; all_later = refl; no_date = refl }
all-behind last h (i ∷ is) e =
    let f = fit_parts last i is e in
    let l : last < rank_in base i.key = f.over in
    let t = all-behind (rank_in base i.key) (omega arith) is f.tail in
    let r : rank_in base dof < rank_in base i.key = omega arith in
    let n : same i.key dof ≡ false = same_other i.key dof (λ q. omega (arith, ap (rank_in base) q)) in
    record {
      no_earlier = rw (le-ltb (rank_in base i.key) (rank_in base dof) (omega arith)) t.no_earlier;
      all_later = rw (lt-ltb (rank_in base dof) (rank_in base i.key) r) (ap (λ (js : List Worded). i ∷ js) t.all_later);
      no_date = rw n t.no_date;
    }

around_behind : (d : Word) (is : List Worded) → Later is → around d is ≡ date_items d ++ is
around_behind d is t = rw t.no_earlier (ap (λ (js : List Worded). date_items d ++ js) t.all_later)

-- an item of DOF is left out
around_date : (d : Word) (i : Worded) (is : List Worded) → i.key ≡ dof → Later is → around d (i ∷ is) ≡ date_items d ++ is
around_date d i is k t =
    let l : rank_in base i.key ≡ rank_in base dof = ap (rank_in base) k in
    rw (le-ltb (rank_in base i.key) (rank_in base dof) (omega arith), le-ltb (rank_in base dof) (rank_in base i.key) (omega arith)) (around_behind d is t)

some_date : (d : Word) → null d ≡ false → date_items d ≡ date_item d ∷ []
some_date d n = rw n

module _ (last : ℕ) (i : Worded) (is : List Worded) (f : Fitting last i is) where
  -- the items behind one of DOF, and those from one behind DOF on
  behind_date : i.key ≡ dof → Later is
  behind_date k = all-behind (rank_in base dof) (omega arith) is (one_day last i is f k).3

  from_further : rank_in base dof < rank_in base i.key → Later (i ∷ is)
  from_further r = all-behind (rank_in base dof) (omega arith) (i ∷ is) (fit_cons (rank_in base dof) i is (record { over = r; ruled = f.ruled; tail = f.tail }))

-- so the date's item goes where it is put, and nothing is lost

around_inserted : (d : Word) → null d ≡ false → (last : ℕ) (is : List Worded) → items_fit base last is ≡ true → around d is ≡ inserted d is
around_inserted d n last [] e = rw n
around_inserted d n last (i ∷ is) e =
    let f = fit_parts last i is e in
    go f (around_inserted d n (rank_in base i.key) is f.tail) (side i.key (omega (arith, f.over)))
  where
    go : Fitting last i is → around d is ≡ inserted d is → Side i.key → around d (i ∷ is) ≡ inserted d (i ∷ is)
    go f ih (ahead r p q) = around_first d i is r ∙ rw (p, q) (ap (λ (js : List Worded). i ∷ js) ih)
    go f ih (itself k) = around_date d i is k (behind_date last i is f k) ∙ rw (is_dof i.key k, (one_day last i is f k).1, n)
    go f ih (further r p q) = around_behind d (i ∷ is) (from_further last i is f r) ∙ rw (p, q, n)

around_own : (last : ℕ) (is : List Worded) → items_fit base last is ≡ true → around (under dof is) is ≡ is
around_own last [] e = refl
around_own last (i ∷ is) e =
    let f = fit_parts last i is e in
    go f (around_own (rank_in base i.key) is f.tail) (side i.key (omega (arith, f.over)))
  where
    whole : i.key ≡ dof → i.more ≡ [] → date_item i.first ≡ i
    whole k m = ap₂ (λ (a : Word) (b : List Word). record { key = a; first = i.first; more = b }) (sym k) (sym m)

    go : Fitting last i is → around (under dof is) is ≡ is → Side i.key → around (under dof (i ∷ is)) (i ∷ is) ≡ i ∷ is
    go f ih (ahead r p q) = rw p (around_first (under dof is) i is r ∙ ap (λ (js : List Worded). i ∷ js) ih)
    go f ih (itself k) =
        let o = one_day last i is f k in
        let d : under dof (i ∷ is) ≡ i.first = rw (is_dof i.key k, o.1) in
        ap (λ (w : Word). around w (i ∷ is)) d ∙ around_date i.first i is k (behind_date last i is f k)
        ∙ ap (λ (js : List Worded). js ++ is) (some_date i.first (date_some i.first o.0))
        ∙ ap (λ (j : Worded). j ∷ is) (whole k o.1)
    go f ih (further r p q) = let t = from_further last i is f r in ap (λ (w : Word). around w (i ∷ is)) t.no_date ∙ around_behind [] (i ∷ is) t

-- and the others are as they were
others_inserted : (d : Word) (is : List Worded) → only other_key (inserted d is) ≡ only other_key is
others_inserted d [] = refl
others_inserted d (i ∷ is) = go (others_inserted d is) (same i.key dof) (elem i.key keys_behind) refl
  where
    go : only other_key (inserted d is) ≡ only other_key is → (a b : Bool) → same i.key dof ≡ a
        → only other_key (cond a (record { key = dof; first = d; more = i.more } ∷ is) (cond b (date_item d ∷ (i ∷ is)) (i ∷ inserted d is)))
        ≡ only other_key (i ∷ is)
    go ih true b p = rw p
    go ih false true p = refl
    go ih false false p = rw p (ap (λ (js : List Worded). i ∷ js) ih)

-- THE DATE is what the update looks up under DOF, of any content

only_first : (is : List Worded) → words_of_first (only of_date is) ≡ under dof is
only_first [] = refl
only_first (i ∷ is) = go (only_first is) (same i.key dof)
  where
    go : words_of_first (only of_date is) ≡ under dof is → (b : Bool)
        → words_of_first (cond b (i ∷ only of_date is) (only of_date is)) ≡ first_words (cond b (i ∷ is) (from_key dof is))
    go ih true = refl
    go ih false = ih

pub date_told_lem : (s : List ℕ) → date_told s ≡ date_in s
unfolding date_told words_under
date_told_lem s = only_first (items_in s)

-- OF A CONTENT THAT FITS

module _ (s : List ℕ) (e : fits18 s ≡ true) where
  others_are : items_in (other_items s) ≡ only other_key (items_in s)
  unfolding other_items
  others_are = standing_joined (only other_key (items_in s)) (only_fit other_key 0 (items_in s) (standing_fit s e))

  made : (d : Word) → eighteen d (other_items s) ≡ written (around d (items_in s))
  unfolding eighteen
  made d = ap written (ap (around d) others_are ∙ around_others d (items_in s))

  -- its parts make it
  pub told_exact : eighteen (date_told s) (other_items s) ≡ s
  unfolding words_under
  told_exact =
      ap (λ (d : Word). eighteen d (other_items s)) (date_told_lem s)
      ∙ made (date_in s) ∙ ap written (around_own 0 (items_in s) (standing_fit s e)) ∙ written_standing s e

  -- with a date it is that date and its other items
  module _ (d : Word) (v : date d ≡ true) where
    pub told_with : with_date d s ≡ eighteen d (other_items s)
    told_with = with_items d s e ∙ ap written (sym (around_inserted d (date_some d v) 0 (items_in s) (standing_fit s e))) ∙ sym (made d)

    pub told_date : date_told (with_date d s) ≡ d
    told_date = date_told_lem (with_date d s) ∙ with_date_lem d s e v

    pub told_others : other_items (with_date d s) ≡ other_items s
    unfolding other_items
    told_others =
        ap (λ (is : List Worded). join 32 (spelt (only other_key is))) (with_standing d s e v)
        ∙ ap (λ (is : List Worded). join 32 (spelt is)) (others_inserted d (items_in s))
