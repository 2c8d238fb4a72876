-- An item by its key, of a content and of its record: `has_key` and `words_under` tell what the record has. Assumes nothing.
use Prim.Native.Nat.{ℕ, ◌<◌}
use mathlib.Core.Path.{◌≡◌, refl, sym, ap, subst, ◌∙◌}
use mathlib.Core.Bool.{Bool, true, false, cond, not, false≢true}
use mathlib.Core.List.Memᴰ
use mathlib.Core.List.{List, [], ◌∷◌, map, Memᴰ}
use mathlib.Core.Logic.{⊎_elim}
use native.Mathlib.Omega.{arith}
use borrow.Author.Tests.{ltb-true}
use lib.Dec.{ltb}
use Rattle.alphabet.specs.Text.{bytes}
use Rattle.text.specs.Words.{Word, split, join, null, same, all}
use Rattle.text.proofs.Tests.{both, same-eq, same_self, same_other}
use Rattle.other.specs.Rules.{Edition18, base, rank_in, rule_in, word_fits, more_fits}
use Rattle.other.specs.Field18.{Keyed, Item, Worded, nothing, items, worded, group, items_fit}
use Rattle.other.specs.Field18.{fit_from, item_of, fits_in, record18, fits18, from_key, has, first_words, under, items_of, has_key, words_under}
use Rattle.other.proofs.Items.{items_spelled}

-- OF A CONTENT AND ITS RECORD

items_of_lem : (ed : Edition18) (s : List ℕ) → map (item_of ed) (group (split 32 s)).grouped ≡ items_of (record18 ed s)
unfolding record18
items_of_lem ed s = go (same s (bytes "0")) refl
  where
    go : (b : Bool) → same s (bytes "0") ≡ b
        → map (item_of ed) (group (split 32 s)).grouped ≡ items_of (cond b nothing (items (map (item_of ed) (group (split 32 s)).grouped)))
    go true p = ap (λ (t : List ℕ). map (item_of ed) (group (split 32 t)).grouped) (same-eq s (bytes "0") p)
    go false p = refl

has_elements : (ed : Edition18) (key : Word) (is : List Worded) → has key is ≡ has key (map (item_of ed) is)
has_elements ed key [] = refl
has_elements ed key (i ∷ is) = go (has_elements ed key is) (same i.key key)
  where
    go : has key is ≡ has key (map (item_of ed) is) → (b : Bool)
        → not (null (cond b (i ∷ is) (from_key key is))) ≡ not (null (cond b (map (item_of ed) (i ∷ is)) (from_key key (map (item_of ed) is))))
    go ih true = refl
    go ih false = ih

pub has_record : (ed : Edition18) (s : List ℕ) (key : Word) → has_key s key ≡ has key (items_of (record18 ed s))
unfolding has_key
has_record ed s key = has_elements ed key (group (split 32 s)).grouped ∙ ap (has key) (items_of_lem ed s)

-- OF ITEMS

-- an item of a key, among items
pub record Of {A : Type 0} (key : Word) (is : List (Keyed A)) : Type 0 where
  pub item : Keyed A
  pub one : Memᴰ item is
  pub of_key : item.key ≡ key

module _ {A : Type 0} where
  pub has_item : (key : Word) (is : List (Keyed A)) → has key is ≡ true → Of key is
  has_item key [] e = absurd (false≢true e)
  has_item key (i ∷ is) e = go (has_item key is) (same i.key key) refl e
    where
      go : (has key is ≡ true → Of key is) → (b : Bool) → same i.key key ≡ b → not (null (cond b (i ∷ is) (from_key key is))) ≡ true → Of key (i ∷ is)
      go ih true p q = record { item = i; one = Memᴰ.head refl; of_key = same-eq i.key key p }
      go ih false p q = let o = ih q in record { item = o.item; one = Memᴰ.tail o.one; of_key = o.of_key }

-- nothing is found under a key that there is no item of
pub none_under : (key : Word) (is : List Worded) → has key is ≡ false → under key is ≡ []
none_under key is e = go (from_key key is) e
  where
    go : (js : List Worded) → not (null js) ≡ false → first_words js ≡ []
    go [] q = refl
    go (j ∷ js) q = absurd (false≢true (sym q))

-- items that fit have each key once, so an item's words are what is found under its key
module _ (ed : Edition18) where
  step : (last : ℕ) (i : Worded) (is : List Worded) → items_fit ed last (i ∷ is) ≡ true
      → (last < rank_in ed i.key) × (items_fit ed (rank_in ed i.key) is ≡ true)
  step last i is e =
      let a = both (ltb last (rank_in ed i.key)) _ e in
      let b = both (word_fits (rule_in ed (rank_in ed i.key)) i.first) _ a.1 in
      (ltb-true last (rank_in ed i.key) a.0, (both (all (more_fits (rule_in ed (rank_in ed i.key))) i.more) _ b.1).1)

  later_key : (last : ℕ) (is : List Worded) → items_fit ed last is ≡ true → (i : Worded) → Memᴰ i is → last < rank_in ed i.key
  later_key last [] e i m = absurd (Memᴰ.not-nil m)
  later_key last (j ∷ is) e i m =
      let a = step last j is e in
      ⊎_elim
      (λ (q : i ≡ j). rw q a.0)
      (λ n. let h = later_key (rank_in ed j.key) is a.1 i n in omega arith)
      (Memᴰ.cases_cons m)

  pub under_item : (last : ℕ) (is : List Worded) → items_fit ed last is ≡ true → (i : Worded) → Memᴰ i is → under i.key is ≡ join 32 (i.first ∷ i.more)
  under_item last [] e i m = absurd (Memᴰ.not-nil m)
  under_item last (j ∷ is) e i m =
      let a = step last j is e in
      ⊎_elim
      here
      (λ n. later (later_key (rank_in ed j.key) is a.1 i n) (under_item (rank_in ed j.key) is a.1 i n))
      (Memᴰ.cases_cons m)
    where
      here : i ≡ j → under i.key (j ∷ is) ≡ join 32 (i.first ∷ i.more)
      here q =
          subst (λ (x : Worded). under x.key (j ∷ is) ≡ join 32 (x.first ∷ x.more)) (sym q) (rw (same_self j.key))

      later : rank_in ed j.key < rank_in ed i.key
          → under i.key is ≡ join 32 (i.first ∷ i.more) → under i.key (j ∷ is) ≡ join 32 (i.first ∷ i.more)
      later h ih = rw (same_other j.key i.key (λ q. omega (arith, ap (rank_in ed) q))) ih

-- OF A CONTENT THAT FITS: an item's words, spelled, stand under its key

module _ (s : List ℕ) (e : fits18 s ≡ true) where
  -- its items as they stand fit
  pub standing_fit : items_fit base 0 (group (split 32 s)).grouped ≡ true
  unfolding fits_in
  standing_fit = go (same s (bytes "0")) refl e
    where
      go : (b : Bool) → same s (bytes "0") ≡ b → cond b true (fit_from base 0 (split 32 s)) ≡ true → items_fit base 0 (group (split 32 s)).grouped ≡ true
      go true p q = ap (λ (t : List ℕ). items_fit base 0 (group (split 32 t)).grouped) (same-eq s (bytes "0") p)
      go false p q = (both (null (group (split 32 s)).loose) _ q).1

  -- its items as they stand are the record's, spelled
  standing : (group (split 32 s)).grouped ≡ map worded (items_of (record18 base s))
  standing = sym (items_spelled base 0 (group (split 32 s)).grouped standing_fit) ∙ ap (map worded) (items_of_lem base s)

  pub words_record : (key : Word) → words_under s key ≡ under key (map worded (items_of (record18 base s)))
  unfolding words_under
  words_record key = ap (under key) standing

  pub words_item : (i : Item) → Memᴰ i (items_of (record18 base s)) → words_under s i.key ≡ join 32 ((worded i).first ∷ (worded i).more)
  words_item i m =
      words_record i.key
      ∙ under_item base 0 (map worded (items_of (record18 base s))) (ap (items_fit base 0) (sym standing) ∙ standing_fit) (worded i) (Memᴰ.map worded m)

pub no_words : (s : List ℕ) (key : Word) → has_key s key ≡ false → words_under s key ≡ []
unfolding has_key words_under
no_words s key e = none_under key (group (split 32 s)).grouped e
