-- Words grouped into items and items spelled as words determine one another. Assumes nothing.
use Prim.Native.Nat.{ℕ}
use mathlib.Core.Path.{◌≡◌, refl, sym, ap, ap₂, ◌∙◌}
use mathlib.Core.Bool.{Bool, true, false, cond, not, false≢true}
use mathlib.Core.List.{List, [], ◌∷◌, ◌++◌}
use native.Mathlib.Omega.{arith}
use lib.Dec.{ltb}
use lib.ListN.{length-append}
use borrow.Author.Tests.{ltb-true, lt-ltb}
use Rattle.alphabet.specs.Alphabet.{text, in_alphabet, white}
use Rattle.text.specs.Words.{Word, holds, before, behind, all, null, free, same, tidy_byte, tidy_word, text_word}
use Rattle.text.proofs.Tests.{both, all_imp, all_append, some_length, same-eq}
use Rattle.text.proofs.Tidy.{text_tidy, oblique_tidy, text_word_free, text_word_tidy}
use Rattle.text.proofs.Joined.{seam, holds_seam, before_seam, behind_seam, holds-free}
use Rattle.supplement.specs.Field19.{Key, E, P, R, S, J, D, A, N, C, Other}
use Rattle.supplement.specs.Field19.{key_among, keys, keyed, spell_key, place, Part, Field19, key_of, words_of, valid_part, in_order, opened}
use Rattle.supplement.specs.Field19.{spelt, Item, Groups, put, group, item_fits, items_fit, parts_of}
use Rattle.supplement.proofs.Parts.{part_read, part_back, part_texts}

-- KEYS AND THEIR LETTERS

among_spelled : (ks : List Key) (w : Word) → ltb 0 (place (key_among ks w)) ≡ true → spell_key (key_among ks w) ≡ w
among_spelled [] w h = absurd (false≢true h)
among_spelled (k ∷ ks) w h = go (among_spelled ks w) (same w (spell_key k)) refl h
  where
    go : (ltb 0 (place (key_among ks w)) ≡ true → spell_key (key_among ks w) ≡ w)
        → (b : Bool) → same w (spell_key k) ≡ b → ltb 0 (place (cond b k (key_among ks w))) ≡ true → spell_key (cond b k (key_among ks w)) ≡ w
    go ih true q h = sym (same-eq w (spell_key k) q)
    go ih false q h = ih h

pub key_spelled : (w : Word) → ltb 0 (place (keyed w)) ≡ true → spell_key (keyed w) ≡ w
unfolding keyed
key_spelled w h = among_spelled keys w h

key_read : (k : Key) → keyed (spell_key k) ≡ k
unfolding keyed
key_read E = refl
key_read P = refl
key_read R = refl
key_read S = refl
key_read J = refl
key_read D = refl
key_read A = refl
key_read N = refl
key_read C = refl
key_read Other = refl

key_free : (k : Key) → free 47 (spell_key k) ≡ true
key_free E = refl
key_free P = refl
key_free R = refl
key_free S = refl
key_free J = refl
key_free D = refl
key_free A = refl
key_free N = refl
key_free C = refl
key_free Other = refl

-- THE PARTS of an item that fits, and of the items behind it
pub record First (least : ℕ) (i : Item) (is : List Item) : Type 0 where
  pub later : ltb least (place i.key) ≡ true
  pub fits : item_fits i.key i.words ≡ true
  pub others : items_fit (place i.key) is ≡ true

pub first_item : (least : ℕ) (i : Item) (is : List Item) → items_fit least (i ∷ is) ≡ true → First least i is
first_item least i is e =
    let h = both (ltb least (place i.key)) _ e in
    let g = both (item_fits i.key i.words) _ h.1 in
    record { later = h.0; fits = g.0; others = g.1 }

pub above : (least n : ℕ) → ltb least n ≡ true → ltb 0 n ≡ true
above least n e = let h = ltb-true least n e in lt-ltb 0 n (omega arith)

-- WORDS THAT ARE GROUPED are spelled by the items

abbrev begun : Word → Groups → Item
begun w g = record { key = keyed (before 47 w); words = behind 47 w ∷ g.0 }

-- a word that begins an item
spelt_item : (least : ℕ) (w : Word) (ws : List Word) (g : Groups) → holds 47 w ≡ true
    → (items_fit (place (begun w g).key) g.1 ≡ true → g.0 ++ spelt (parts_of g.1) ≡ ws)
    → items_fit least (begun w g ∷ g.1) ≡ true → spelt (parts_of (begun w g ∷ g.1)) ≡ w ∷ ws
spelt_item least w ws g h ih e =
    let f = first_item least (begun w g) g.1 e in
    let r = part_read (begun w g).key (begun w g).words f.fits in
    let k : spell_key (begun w g).key ≡ before 47 w = key_spelled (before 47 w) (above least (place (begun w g).key) f.later) in
    ap₂ (λ (k : Key) (l : List Word). opened (spell_key k) l ++ spelt (parts_of g.1)) r.key r.words
    ∙ ap₂ (λ (v : Word) (l : List Word). v ∷ l) (ap (λ (v : Word). v ++ (47 ∷ behind 47 w)) k ∙ seam 47 w h) (ih f.others)

spelt_put : (least : ℕ) (w : Word) (ws : List Word) (g : Groups)
    → ((n : ℕ) → items_fit n g.1 ≡ true → g.0 ++ spelt (parts_of g.1) ≡ ws)
    → items_fit least (put w g).1 ≡ true → (put w g).0 ++ spelt (parts_of (put w g).1) ≡ w ∷ ws
spelt_put least w ws g ih e = go (holds 47 w) refl e
  where
    chosen : Bool → Groups
    chosen b = cond b ([], begun w g ∷ g.1) (w ∷ g.0, g.1)

    go : (b : Bool) → holds 47 w ≡ b → items_fit least (chosen b).1 ≡ true → (chosen b).0 ++ spelt (parts_of (chosen b).1) ≡ w ∷ ws
    go true h f = spelt_item least w ws g h (ih (place (begun w g).key)) f
    go false h f = ap (λ (l : List Word). w ∷ l) (ih least f)

pub spelt_group : (least : ℕ) (ws : List Word) → items_fit least (group ws).1 ≡ true → (group ws).0 ++ spelt (parts_of (group ws).1) ≡ ws
spelt_group least [] e = refl
spelt_group least (w ∷ ws) e = spelt_put least w ws (group ws) (λ n f. spelt_group n ws f) e

-- and the parts of items that fit are valid and in order

pub items_valid_lem : (least : ℕ) (is : List Item) → items_fit least is ≡ true → (in_order least (parts_of is) ≡ true) × (all valid_part (parts_of is) ≡ true)
items_valid_lem least [] e = (refl, refl)
items_valid_lem least (i ∷ is) e =
    let f = first_item least i is e in
    let r = part_read i.key i.words f.fits in
    let h = items_valid_lem (place i.key) is f.others in
    (rw (r.key, f.later) h.0, rw r.valid h.1)

-- VALID PARTS are grouped again from their words

abbrev pub items_of : Field19 → List Item
items_of [] = []
items_of (p ∷ ps) = record { key = key_of p; words = words_of p } ∷ items_of ps

group_more : (l ws : List Word) (is : List Item) → all text_word l ≡ true → group ws ≡ ([], is) → group (l ++ ws) ≡ (l, is)
group_more [] ws is e g = g
group_more (w ∷ l) ws is e g =
    let h = both (text_word w) (all text_word l) e in
    ap (put w) (group_more l ws is h.1 g) ∙ rw (holds-free 47 w (text_word_free w h.0))

group_part : (k : Key) (l ws : List Word) (is : List Item) → not (null l) ≡ true → all text_word l ≡ true → group ws ≡ ([], is)
    → group (opened (spell_key k) l ++ ws) ≡ ([], record { key = k; words = l } ∷ is)
group_part k [] ws is n e g = absurd (false≢true n)
group_part k (w ∷ l) ws is n e g =
    ap (put (spell_key k ++ (47 ∷ w))) (group_more l ws is (both (text_word w) (all text_word l) e).1 g)
    ∙ rw (holds_seam 47 (spell_key k) w (key_free k), before_seam 47 (spell_key k) w (key_free k), behind_seam 47 (spell_key k) w (key_free k), key_read k)

pub group_spelt : (ps : Field19) → all valid_part ps ≡ true → group (spelt ps) ≡ ([], items_of ps)
group_spelt [] e = refl
group_spelt (p ∷ ps) e =
    let h = both (valid_part p) (all valid_part ps) e in
    let t = both (not (null (words_of p))) (all text_word (words_of p)) (part_texts p h.0) in
    group_part (key_of p) (words_of p) (spelt ps) (items_of ps) t.0 t.1 (group_spelt ps h.1)

pub items_fit_lem : (least : ℕ) (ps : Field19) → in_order least ps ≡ true → all valid_part ps ≡ true → items_fit least (items_of ps) ≡ true
items_fit_lem least [] e v = refl
items_fit_lem least (p ∷ ps) e v =
    let h = both (ltb least (place (key_of p))) _ e in
    let g = both (valid_part p) (all valid_part ps) v in
    rw (h.0, (part_back p g.0).fits) (items_fit_lem (place (key_of p)) ps h.1 g.1)

pub parts_back_lem : (ps : Field19) → all valid_part ps ≡ true → parts_of (items_of ps) ≡ ps
parts_back_lem [] e = refl
parts_back_lem (p ∷ ps) e =
    let h = both (valid_part p) (all valid_part ps) e in
    ap₂ (λ (q : Part) (qs : Field19). q ∷ qs) (part_back p h.0).part (parts_back_lem ps h.1)

-- SPELLED WORDS are tidy

key_tidy : (k : Key) → all tidy_byte (spell_key k) ≡ true
unfolding text in_alphabet white
key_tidy E = refl
key_tidy P = refl
key_tidy R = refl
key_tidy S = refl
key_tidy J = refl
key_tidy D = refl
key_tidy A = refl
key_tidy N = refl
key_tidy C = refl
key_tidy Other = refl

opened_tidy : (k : Key) (l : List Word) → all text_word l ≡ true → all tidy_word (opened (spell_key k) l) ≡ true
opened_tidy k [] e = refl
opened_tidy k (w ∷ l) e =
    let h = both (text_word w) (all text_word l) e in
    let t : all tidy_byte (spell_key k ++ (47 ∷ w)) ≡ true
    = all_append tidy_byte (spell_key k) (47 ∷ w) (key_tidy k)
    (rw oblique_tidy (all_imp text tidy_byte text_tidy w (both (not (null w)) (all text w) h.0).1)) in
    rw (some_length (spell_key k ++ (47 ∷ w)) (rw length-append (omega arith)), t) (all_imp text_word tidy_word text_word_tidy l h.1)

pub spelt_tidy : (ps : Field19) → all valid_part ps ≡ true → all tidy_word (spelt ps) ≡ true
spelt_tidy [] e = refl
spelt_tidy (p ∷ ps) e =
    let h = both (valid_part p) (all valid_part ps) e in
    all_append tidy_word (opened (spell_key (key_of p)) (words_of p)) (spelt ps)
    (opened_tidy (key_of p) (words_of p) (both (not (null (words_of p))) (all text_word (words_of p)) (part_texts p h.0)).1)
    (spelt_tidy ps h.1)

-- and there is one at least
pub spelt_some : (p : Part) (ps : Field19) → valid_part p ≡ true → not (null (spelt (p ∷ ps))) ≡ true
spelt_some p ps v = go (words_of p) (both (not (null (words_of p))) (all text_word (words_of p)) (part_texts p v)).0
  where
    go : (l : List Word) → not (null l) ≡ true → not (null (opened (spell_key (key_of p)) l ++ spelt ps)) ≡ true
    go [] e = absurd (false≢true e)
    go (w ∷ l) e = refl
