-- Field 19 as sent: a content that fits and its record determine one another. Assumes nothing.
use Prim.Native.Nat.{ℕ}
use mathlib.Core.Path.{◌≡◌, refl, sym, ap, ◌∙◌}
use mathlib.Core.Bool.{true, not, false≢true}
use mathlib.Core.List.{List, [], ◌∷◌, ◌++◌}
use Rattle.text.specs.Words.{Word, split, join, all, null, free, tidy_word, tidy}
use Rattle.text.proofs.Tests.{both, and_both, all_imp, null-nil}
use Rattle.text.proofs.Joined.{join-split, split-join}
use Rattle.text.proofs.Tidy.{word_free, tidy-join}
use Rattle.supplement.specs.Field19.{Field19, valid_part, in_order, valid19, spelt, spell19, Item, Groups, group, items_fit, groups_fit, fits19, parts_of}
use Rattle.supplement.specs.Field19.{record19}
use Rattle.supplement.proofs.Items.{spelt_group, items_valid_lem, items_of, group_spelt, items_fit_lem, parts_back_lem, spelt_tidy, spelt_some}

-- WHAT FITS, taken apart
record Grouped (g : Groups) : Type 0 where
  strays : g.0 ≡ []
  some : not (null g.1) ≡ true
  items : items_fit 0 g.1 ≡ true

grouped : (g : Groups) → groups_fit g ≡ true → Grouped g
grouped g e =
    let h = both (null g.0) _ e in
    let f = both (not (null g.1)) _ h.1 in
    record { strays = null-nil g.0 h.0; some = f.0; items = f.1 }

-- FROM A CONTENT TO ITS RECORD

pub spelled : (s : List ℕ) → fits19 s ≡ true → spell19 (record19 s) ≡ s
unfolding fits19 spell19 record19
spelled s e =
    let g = grouped (group (split 32 s)) e in
    ap (join 32) (ap (λ (l : List Word). l ++ spelt (record19 s)) (sym g.strays) ∙ spelt_group 0 (split 32 s) g.items) ∙ join-split 32 s

pub held : (s : List ℕ) → fits19 s ≡ true → valid19 (record19 s) ≡ true
unfolding fits19 record19 valid19
held s e =
    let g = grouped (group (split 32 s)) e in
    let v = items_valid_lem 0 (group (split 32 s)).1 g.items in
    and_both _ _ (some_parts (group (split 32 s)).1 g.some) (and_both _ _ v.0 v.1)
  where
    some_parts : (is : List Item) → not (null is) ≡ true → not (null (parts_of is)) ≡ true
    some_parts [] q = q
    some_parts (i ∷ is) q = refl

-- FROM A RECORD TO ITS SPELLING

-- the words of a valid record: one at least, all tidy
words_tidy : (r : Field19) → valid19 r ≡ true → (not (null (spelt r)) ≡ true) × (all tidy_word (spelt r) ≡ true)
unfolding valid19
words_tidy [] v = absurd (false≢true v)
words_tidy (p ∷ ps) v =
    let h = both (in_order 0 (p ∷ ps)) (all valid_part (p ∷ ps)) v in
    (spelt_some p ps (both (valid_part p) (all valid_part ps) h.1).0, spelt_tidy (p ∷ ps) h.1)

-- they are cut out of its spelling
pub cut : (r : Field19) → valid19 r ≡ true → split 32 (spell19 r) ≡ spelt r
unfolding spell19
cut r v = let h = words_tidy r v in go (spelt r) h.0 h.1
  where
    go : (ws : List Word) → not (null ws) ≡ true → all tidy_word ws ≡ true → split 32 (join 32 ws) ≡ ws
    go [] n e = absurd (false≢true n)
    go (w ∷ ws) n e = split-join 32 w ws (all_imp tidy_word (free 32) word_free (w ∷ ws) e)

groups : (r : Field19) → valid19 r ≡ true → group (split 32 (spell19 r)) ≡ ([], items_of r)
unfolding valid19
groups r v = ap group (cut r v) ∙ group_spelt r (both (in_order 0 r) _ (both (not (null r)) _ v).1).1

pub taken : (r : Field19) → valid19 r ≡ true → fits19 (spell19 r) ≡ true
unfolding valid19 fits19
taken [] v = absurd (false≢true v)
taken (p ∷ ps) v =
    let h = both (in_order 0 (p ∷ ps)) (all valid_part (p ∷ ps)) v in
    ap groups_fit (groups (p ∷ ps) v) ∙ items_fit_lem 0 (p ∷ ps) h.0 h.1

pub back : (r : Field19) → valid19 r ≡ true → record19 (spell19 r) ≡ r
unfolding valid19 record19
back r v =
    ap (λ (g : Groups). parts_of g.1) (groups r v) ∙ parts_back_lem r (both (in_order 0 r) _ (both (not (null r)) _ v).1).1

valid_tidy : (r : Field19) → valid19 r ≡ true → tidy (spell19 r) ≡ true
unfolding spell19
valid_tidy r v = let h = words_tidy r v in go (spelt r) h.0 h.1
  where
    go : (ws : List Word) → not (null ws) ≡ true → all tidy_word ws ≡ true → tidy (join 32 ws) ≡ true
    go [] n e = absurd (false≢true n)
    go (w ∷ ws) n e = tidy-join w ws e

pub tidied : (s : List ℕ) → fits19 s ≡ true → tidy s ≡ true
tidied s e = ap tidy (sym (spelled s e)) ∙ valid_tidy (record19 s) (held s e)
