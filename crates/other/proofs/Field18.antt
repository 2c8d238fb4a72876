-- Field 18's form is exact and complete, in every edition whose keys are signs; and what an item's key tells of the record. Assumes nothing.
use Prim.Native.Nat.{ℕ, ◌<◌}
use mathlib.Core.Path.{◌≡◌, refl, sym, ap, ◌∙◌}
use mathlib.Core.Bool.{Bool, true, false, cond, not, false≢true, true≢false}
use mathlib.Core.List.{List, [], ◌∷◌, ◌++◌, map}
use lib.Dec.{ltb}
use borrow.Author.Tests.{ltb-true}
use Rattle.alphabet.specs.Text.{bytes}
use Rattle.alphabet.specs.Alphabet.{sign, text, in_alphabet, white}
use Rattle.text.specs.Words.{Word, split, join, holds, all, null, free, same, text_word, tidy_byte, tidy_word, tidy}
use Rattle.text.proofs.Tests.{both, and_both, all_imp, all_append, all-free, same-eq, null-nil}
use Rattle.text.proofs.Index.{null-split}
use Rattle.text.proofs.Joined.{join-split, split-join, seam, holds_seam, before_seam, behind_seam, holds-free}
use Rattle.text.proofs.Tidy.{word_free, sign_tidy, text_tidy, text_word_free, text_word_tidy, tidy-join, oblique_tidy}
use Rattle.shape.specs.Field.{Laws}
use Rattle.shape.proofs.Fields.{plain}
use Rattle.other.specs.Rules.{Edition18, base, rank_in, rule_in, word_fits, more_fits}
use Rattle.other.specs.Field18.{Item, Worded, Field18, nothing, items, worded, spelt, spell18, Groups, put, group, items_fit, items_valid, valid18}
use Rattle.other.specs.Field18.{fit_from, item_of, fits_in, record18, field18_in, field18}
use Rattle.other.proofs.Texts.{word_text, more_text}
use Rattle.other.proofs.Runs.{key_signs}
use Rattle.other.proofs.Items.{null-map, items_valid_lem, items_spelled, worded_fit, worded_back}

-- WORDS INTO ITEMS AND BACK

-- the items' words are what was grouped
pub spelt_group : (ws : List Word) → (group ws).loose ++ spelt (group ws).grouped ≡ ws
spelt_group [] = refl
spelt_group (w ∷ ws) = go (spelt_group ws) (holds 47 w) refl
  where
    go : (group ws).loose ++ spelt (group ws).grouped ≡ ws
        → (b : Bool) → holds 47 w ≡ b → (put w (group ws)).loose ++ spelt (put w (group ws)).grouped ≡ w ∷ ws
    go ih true e = rw e (cc (seam 47 w e))
    go ih false e = rw e (cc)

put_item : (i : Worded) (is : List Worded) → free 47 i.key ≡ true
    → put (i.key ++ (47 ∷ i.first)) (record { loose = i.more; grouped = is }) ≡ record { loose = []; grouped = i ∷ is }
put_item i is e =
    rw (holds_seam 47 i.key i.first e, before_seam 47 i.key i.first e, behind_seam 47 i.key i.first e)

put_word : (w : Word) (g : Groups) → free 47 w ≡ true → put w g ≡ record { loose = w ∷ g.loose; grouped = g.grouped }
put_word w g e = rw (holds-free 47 w e)

group_more : (l : List Word) (ws : List Word) (is : List Worded) → all text_word l ≡ true → group ws ≡ record { loose = []; grouped = is }
    → group (l ++ ws) ≡ record { loose = l; grouped = is }
group_more [] ws is e g = g
group_more (w ∷ l) ws is e g =
    let h = both (text_word w) (all text_word l) e in
    ap (put w) (group_more l ws is h.1 g) ∙ put_word w (record { loose = l; grouped = is }) (text_word_free w h.0)

-- AN ITEM'S FIRST WORD is tidy

some_seam : (k f : Word) → not (null (k ++ (47 ∷ f))) ≡ true
some_seam [] f = refl
some_seam (b ∷ k) f = refl

first_tidy : (k f : Word) → all sign k ≡ true → text_word f ≡ true → tidy_word (k ++ (47 ∷ f)) ≡ true
first_tidy k f p q =
    and_both (not (null (k ++ (47 ∷ f)))) (all tidy_byte (k ++ (47 ∷ f))) (some_seam k f)
    (all_append tidy_byte k (47 ∷ f) (all_imp sign tidy_byte sign_tidy k p)
    (and_both (tidy_byte 47) (all tidy_byte f) oblique_tidy (all_imp text tidy_byte text_tidy f (both (not (null f)) (all text f) q).1)))

zero-tidy : tidy (bytes "0") ≡ true
unfolding tidy text in_alphabet white
zero-tidy = refl

-- WORDS OF A CONTENT: one at least; so where none is loose there is an item

some_grouped : (ws : List Word) → not (null ws) ≡ true → null (group ws).loose ≡ true → not (null (group ws).grouped) ≡ true
some_grouped [] h e = absurd (false≢true h)
some_grouped (w ∷ ws) h e = go (holds 47 w) refl e
  where
    go : (b : Bool) → holds 47 w ≡ b → null (group (w ∷ ws)).loose ≡ true → not (null (group (w ∷ ws)).grouped) ≡ true
    go true p e = rw p
    go false p e = absurd (false≢true (rw p at e))

-- IN AN EDITION whose keys are signs

module _ (ed : Edition18) (named : all (all sign) ed.keys ≡ true) where
  record Fit (last : ℕ) (i : Worded) (is : List Worded) : Type 0 where
    behind_last_lem : last < rank_in ed i.key
    key : all sign i.key ≡ true
    first : text_word i.first ≡ true
    more : all text_word i.more ≡ true
    tail : items_fit ed (rank_in ed i.key) is ≡ true

  parts : (last : ℕ) (i : Worded) (is : List Worded) → items_fit ed last (i ∷ is) ≡ true → Fit last i is
  parts last i is e =
      let a = both (ltb last (rank_in ed i.key)) _ e in
      let b = both (word_fits (rule_in ed (rank_in ed i.key)) i.first) _ a.1 in
      let c = both (all (more_fits (rule_in ed (rank_in ed i.key))) i.more) _ b.1 in
      record {
        behind_last_lem = ltb-true last (rank_in ed i.key) a.0;
        key = key_signs ed named last i.key a.0;
        first = word_text (rule_in ed (rank_in ed i.key)) i.first b.0;
        more = more_text (rule_in ed (rank_in ed i.key)) i.more c.0;
        tail = c.1;
      }

  group_spelt : (last : ℕ) (is : List Worded) → items_fit ed last is ≡ true → group (spelt is) ≡ record { loose = []; grouped = is }
  group_spelt last [] e = refl
  group_spelt last (i ∷ is) e =
      let p = parts last i is e in
      ap (put (i.key ++ (47 ∷ i.first))) (group_more i.more (spelt is) is p.more (group_spelt (rank_in ed i.key) is p.tail))
      ∙ put_item i is (all-free sign 47 refl i.key p.key)

  -- the words of items that fit are tidy
  spelt_tidy : (last : ℕ) (is : List Worded) → items_fit ed last is ≡ true → all tidy_word (spelt is) ≡ true
  spelt_tidy last [] e = refl
  spelt_tidy last (i ∷ is) e =
      let p = parts last i is e in
      and_both (tidy_word (i.key ++ (47 ∷ i.first))) _ (first_tidy i.key i.first p.key p.first)
      (all_append tidy_word i.more (spelt is) (all_imp text_word tidy_word text_word_tidy i.more p.more) (spelt_tidy (rank_in ed i.key) is p.tail))

  -- a content that is not `0`, and fits
  module _ (s : List ℕ) (e : fit_from ed 0 (split 32 s) ≡ true) where
    abbrev standing : List Worded
    standing = (group (split 32 s)).grouped

    apart : (null (group (split 32 s)).loose ≡ true) × (items_fit ed 0 standing ≡ true)
    apart = both (null (group (split 32 s)).loose) (items_fit ed 0 standing) e

    grouped_valid : valid18 ed (items (map (item_of ed) standing)) ≡ true
    grouped_valid =
        and_both (not (null (map (item_of ed) standing))) _
        (ap not (null-map (item_of ed) standing) ∙ some_grouped (split 32 s) (ap not (null-split 32 s)) apart.0)
        (items_valid_lem ed 0 standing apart.1)

    grouped_spelled : join 32 (spelt (map worded (map (item_of ed) standing))) ≡ s
    grouped_spelled =
        ap (λ (is : List Worded). join 32 (spelt is)) (items_spelled ed 0 standing apart.1)
        ∙ ap (join 32) (rw (null-nil (group (split 32 s)).loose apart.0) at (spelt_group (split 32 s)))
        ∙ join-split 32 s

  -- items that stand in a content, and fit
  module _ (i : Worded) (is : List Worded) (e : items_fit ed 0 (i ∷ is) ≡ true) where
    spelt_words : split 32 (join 32 (spelt (i ∷ is))) ≡ spelt (i ∷ is)
    spelt_words =
        split-join 32 (i.key ++ (47 ∷ i.first)) (i.more ++ spelt is)
        (all_imp tidy_word (free 32) word_free (spelt (i ∷ is)) (spelt_tidy 0 (i ∷ is) e))

    spelt_groups : group (split 32 (join 32 (spelt (i ∷ is)))) ≡ record { loose = []; grouped = i ∷ is }
    spelt_groups = ap group spelt_words ∙ group_spelt 0 (i ∷ is) e

    spelt_content : tidy (join 32 (spelt (i ∷ is))) ≡ true
    spelt_content = tidy-join (i.key ++ (47 ∷ i.first)) (i.more ++ spelt is) (spelt_tidy 0 (i ∷ is) e)

  -- a record of items, and valid
  module _ (i : Item) (is : List Item) (e : items_valid ed 0 (i ∷ is) ≡ true) where
    abbrev content : List ℕ
    content = spell18 (items (i ∷ is))

    as_words : items_fit ed 0 (map worded (i ∷ is)) ≡ true
    as_words = worded_fit ed 0 (i ∷ is) e

    content_groups : group (split 32 content) ≡ record { loose = []; grouped = map worded (i ∷ is) }
    content_groups = spelt_groups (worded i) (map worded is) as_words

    content_tidy : tidy content ≡ true
    content_tidy = spelt_content (worded i) (map worded is) as_words

  spelled : (s : List ℕ) → fits_in ed s ≡ true → spell18 (record18 ed s) ≡ s
  unfolding fits_in record18
  spelled s e = go (same s (bytes "0")) refl e
    where
      go : (b : Bool) → same s (bytes "0") ≡ b → cond b true (fit_from ed 0 (split 32 s)) ≡ true
          → spell18 (cond b nothing (items (map (item_of ed) (group (split 32 s)).grouped))) ≡ s
      go true p q = sym (same-eq s (bytes "0") p)
      go false p q = grouped_spelled s q

  held : (s : List ℕ) → fits_in ed s ≡ true → valid18 ed (record18 ed s) ≡ true
  unfolding fits_in record18
  held s e = go (same s (bytes "0")) e
    where
      go : (b : Bool) → cond b true (fit_from ed 0 (split 32 s)) ≡ true
          → valid18 ed (cond b nothing (items (map (item_of ed) (group (split 32 s)).grouped))) ≡ true
      go true q = refl
      go false q = grouped_valid s q

  taken : (r : Field18) → valid18 ed r ≡ true → fits_in ed (spell18 r) ≡ true
  unfolding fits_in
  taken nothing e = refl
  taken (items []) e = absurd (false≢true e)
  taken (items (i ∷ is)) e = go (same (content i is e) (bytes "0"))
    where
      go : (b : Bool) → cond b true (fit_from ed 0 (split 32 (content i is e))) ≡ true
      go true = refl
      go false = rw (content_groups i is e) (as_words i is e)

  back : (r : Field18) → valid18 ed r ≡ true → record18 ed (spell18 r) ≡ r
  unfolding record18
  back nothing e = refl
  back (items []) e = absurd (false≢true e)
  back (items (i ∷ is)) e = go (same (content i is e) (bytes "0")) refl
    where
      go : (b : Bool) → same (content i is e) (bytes "0") ≡ b
          → cond b nothing (items (map (item_of ed) (group (split 32 (content i is e))).grouped)) ≡ items (i ∷ is)
      go true q =
          absurd
          (true≢false
          (ap (λ (g : Groups). null g.loose)
          (sym (content_groups i is e) ∙ ap (λ (t : List ℕ). group (split 32 t)) (same-eq (content i is e) (bytes "0") q))))
      go false q = ap (λ (g : Groups). items (map (item_of ed) g.grouped)) (content_groups i is e) ∙ ap items (worded_back ed 0 (i ∷ is) e)

  tidied : (s : List ℕ) → fits_in ed s ≡ true → tidy s ≡ true
  tidied s e = ap tidy (sym (spelled s e)) ∙ tidy_record (record18 ed s) (held s e)
    where
      tidy_record : (r : Field18) → valid18 ed r ≡ true → tidy (spell18 r) ≡ true
      tidy_record nothing v = zero-tidy
      tidy_record (items []) v = absurd (false≢true v)
      tidy_record (items (i ∷ is)) v = content_tidy i is v

  pub field18_in_laws : Laws (field18_in ed)
  field18_in_laws = plain (field18_in ed) (λ r. refl) (record { spelled = spelled; held = held; taken = taken; back = back; tidied = tidied })

-- IN THE EDITION OF DOCUMENT 01

pub base_named : all (all sign) base.keys ≡ true
unfolding base
base_named = refl

pub field18_laws : Laws field18
field18_laws = field18_in_laws base base_named
