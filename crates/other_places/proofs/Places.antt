-- The place of field 18 is right, in every edition whose keys are of signs, no two equal. Assumes nothing.
use Prim.Native.Nat.{ℕ, zero, suc, ◌+◌, ◌<◌, ◌≤◌}
use mathlib.Core.Path.{◌≡◌, refl, sym, ap, ◌∙◌}
use mathlib.Core.Bool.{Bool, true, false, ◌&&◌, ◌||◌, not, cond, true≢false, or-false, and_assoc}
use mathlib.Core.List.{List, [], ◌∷◌, ◌++◌}
use Rattle.std.specs.Prelude.{Option, None, Some}
use native.Mathlib.Omega.{arith}
use native.Mathlib.Nat.{not-suc-le-zero}
use lib.Dec.{ltb, eqb}
use lib.ListN.{length, get_or}
use borrow.Author.Tests.{ltb-true, ltb-false, lt-ltb, le-ltb, ne_eqb, not-true}
use Rattle.alphabet.specs.Text.{bytes}
use Rattle.alphabet.specs.Alphabet.{sign}
use Rattle.text.specs.Words.{Word, split, all, null, same, elem, free, holds, before, behind, rank_from}
use Rattle.text.proofs.Tests.{both, and_false, all_append, all-free, same-eq, same_self, of_elem, rank-elem}
use Rattle.text.proofs.Index.{null-split}
use Rattle.text.proofs.Joined.{seam, holds-free, holds_seam, before_seam, behind_seam}
use Rattle.text.proofs.Tidy.{text_word_free, text_word_tidy, word_free}
use Rattle.places.specs.Place.{IsPlace}
use Rattle.places.specs.Words.{ended, words_fit, content_fits, words_place}
use Rattle.places.proofs.Place.{place_of_language, no_place, either_place}
use Rattle.places.specs.Given.{given}
use Rattle.places.proofs.Given.{or_cond, given_ended, given_some}
use Rattle.places.proofs.Words.{none_fits, words_place_lem}
use Rattle.entries.specs.Entries.{any_entry, matched, entries_place}
use Rattle.entries.proofs.Entries.{AllRight, none_left, and_then, label_place_lem, same_swap, entries_place_lem}
use Rattle.other.specs.declared.Rule.{Rule}
use Rattle.other.specs.Rules.{Edition18, base, rank_in, rule_in, word_fits, more_fits, single, distinct, sound_keys}
use Rattle.other.specs.Field18.{fit_from, fit_more, fits_in, fits18}
use Rattle.other_places.specs.Places.{rule_place, keyed, later_keys, item_after, items, more_place, items_word, items_place, place18}
use Rattle.other.proofs.Texts.{word_text}
use Rattle.other.proofs.Index.{fit_step, more_step}
use Rattle.other_places.proofs.Rules.{rule_right, rule_one}

-- A WORD BEHIND AN OBLIQUE holds none, nor a space

word_plain : (r : Rule) (w : Word) → word_fits r w ≡ true → holds 47 w ≡ false
word_plain r w e = holds-free 47 w (text_word_free w (word_text r w e))

word_spaceless : (r : Rule) (w : Word) → word_fits r w ≡ true → free 32 w ≡ true
word_spaceless r w e = word_free w (text_word_tidy w (word_text r w e))

-- THE KEYS

-- a word that is not in a list has no rank there
no_rank : (j : ℕ) (w : Word) (vs : List Word) → elem w vs ≡ false → rank_from j w vs ≡ 0
no_rank j w [] e = refl
no_rank j w (v ∷ vs) e = go (same w v) (no_rank (suc j) w vs) e
  where
    go : (x : Bool) → (elem w vs ≡ false → rank_from (suc j) w vs ≡ 0) → cond x true (elem w vs) ≡ false → cond x j (rank_from (suc j) w vs) ≡ 0
    go true ih h = absurd (true≢false h)
    go false ih h = ih h

elem_at : (vs : List Word) (k : ℕ) → k < length vs → elem (get_or vs k []) vs ≡ true
elem_at [] k h = absurd (not-suc-le-zero h)
elem_at (v ∷ vs) zero h = rw (same_self v)
elem_at (v ∷ vs) (suc k) h = go (same (get_or vs k []) v) (elem_at vs k (omega arith))
  where
    go : (x : Bool) → elem (get_or vs k []) vs ≡ true → cond x true (elem (get_or vs k []) vs) ≡ true
    go true e = refl
    go false e = e

rank_at : (j : ℕ) (vs : List Word) (k : ℕ) → distinct vs ≡ true → k < length vs → rank_from j (get_or vs k []) vs ≡ j + k
rank_at j [] k d h = absurd (not-suc-le-zero h)
rank_at j (v ∷ vs) zero d h = rw (same_self v) (omega arith)
rank_at j (v ∷ vs) (suc k) d h = go (same (get_or vs k []) v) refl (rank_at (suc j) vs k (both (not (elem v vs)) (distinct vs) d).1 (omega arith))
  where
    go : (x : Bool) → same (get_or vs k []) v ≡ x → rank_from (suc j) (get_or vs k []) vs ≡ suc j + k → cond x j (rank_from (suc j) (get_or vs k []) vs)
        ≡ j + suc k
    go true e ih =
        let z : elem v vs ≡ true = ap (λ (u : Word). elem u vs) (sym (same-eq (get_or vs k []) v e)) ∙ elem_at vs k (omega arith) in
        absurd (true≢false (sym z ∙ not-true (elem v vs) (both (not (elem v vs)) (distinct vs) d).0))
    go false e ih = omega (arith, ih)

rank_most : (j : ℕ) (w : Word) (vs : List Word) → 0 < j → rank_from j w vs < j + length vs
rank_most j w [] h = omega arith
rank_most j w (v ∷ vs) h = go (same w v) (rank_most (suc j) w vs (omega arith))
  where
    go : (x : Bool) → rank_from (suc j) w vs < suc j + length vs → cond x j (rank_from (suc j) w vs) < j + suc (length vs)
    go true l = omega arith
    go false l = omega arith

module _ (ed : Edition18) where
  -- the rank of a word's key, and whether the word fits under it
  abbrev ranked : Word → ℕ
  ranked w = rank_in ed (before 47 w)

  abbrev under : Word → Bool
  under w = word_fits (rule_in ed (ranked w)) (behind 47 w)

  -- what a word with an oblique is followed by
  abbrev next : ℕ → Word → Option ℕ
  next k w = item_after ed k (ranked w) (behind 47 w)

  -- what a word with an oblique is behind the key of rank k
  abbrev item : ℕ → ℕ → Word → Bool
  item k r w = ltb k r && word_fits (rule_in ed r) (behind 47 w)

  no_item : (k : ℕ) (w : Word) → item k 0 w ≡ false
  no_item k w = rw (le-ltb k 0 (omega arith))

  entries_plain : (k j : ℕ) (vs : List Word) (w : Word) → holds 47 w ≡ false → any_entry (later_keys ed k j vs) w ≡ false
  entries_plain k j [] w h = refl
  entries_plain k j (v ∷ vs) w h = go (ltb k j) (entries_plain k (suc j) vs w h)
    where
      go : (x : Bool) → any_entry (later_keys ed k (suc j) vs) w ≡ false
          → any_entry (cond x (keyed v (rule_in ed j) ∷ later_keys ed k (suc j) vs) (later_keys ed k (suc j) vs)) w ≡ false
      go true e = rw (h, e)
      go false e = e

  entries_item : (k j : ℕ) (vs : List Word) (w : Word) → distinct vs ≡ true → holds 47 w ≡ true
      → any_entry (later_keys ed k j vs) w ≡ item k (rank_from j (before 47 w) vs) w
  entries_item k j [] w d h = sym (no_item k w)
  entries_item k j (v ∷ vs) w d h =
      go (ltb k j) refl (same (before 47 w) v) refl (entries_item k (suc j) vs w (both (not (elem v vs)) (distinct vs) d).1 h)
    where
      -- what is to be shown of the keys behind v
      Later : Type 0
      Later = any_entry (later_keys ed k (suc j) vs) w ≡ item k (rank_from (suc j) (before 47 w) vs) w

      none_later : same (before 47 w) v ≡ true → Later → any_entry (later_keys ed k (suc j) vs) w ≡ false
      none_later e ih =
          let n = not-true (elem v vs) (both (not (elem v vs)) (distinct vs) d).0 in
          let z : elem (before 47 w) vs ≡ false = ap (λ (u : Word). elem u vs) (same-eq (before 47 w) v e) ∙ n in
          ih ∙ ap (λ (r : ℕ). item k r w) (no_rank (suc j) (before 47 w) vs z) ∙ no_item k w

      go : (x : Bool) → ltb k j ≡ x → (y : Bool) → same (before 47 w) v ≡ y → Later
          → any_entry (cond x (keyed v (rule_in ed j) ∷ later_keys ed k (suc j) vs) (later_keys ed k (suc j) vs)) w
          ≡ item k (cond y j (rank_from (suc j) (before 47 w) vs)) w
      go true p true q ih = rw (h, same_swap v (before 47 w), q, none_later q ih, p) (or-false (word_fits (rule_in ed j) (behind 47 w)))
      go true p false q ih = rw (h, same_swap v (before 47 w), q) ih
      go false p true q ih = none_later q ih ∙ sym (rw p)
      go false p false q ih = ih

  module _ (named : all (all sign) ed.keys ≡ true) (apart : distinct ed.keys ≡ true) where
    -- A WORD is one more of the last key's, or a later key and its first word
    abbrev more : ℕ → Word → Bool
    more k w = ltb 0 k && more_fits (rule_in ed k) w

    more_oblique : (k : ℕ) (w : Word) → holds 47 w ≡ true → more k w ≡ false
    more_oblique k w h = go (word_fits (rule_in ed k) w) refl
      where
        go : (x : Bool) → word_fits (rule_in ed k) w ≡ x → (ltb 0 k && (not (single (rule_in ed k)) && x)) ≡ false
        go true e = absurd (true≢false (sym h ∙ word_plain (rule_in ed k) w e))
        go false e = rw (and_false (not (single (rule_in ed k))) false refl) (and_false (ltb 0 k) false refl)

    after_is : (k : ℕ) (w : Word) → (more k w || any_entry (later_keys ed k 1 ed.keys) w) ≡ ended ((items ed).after k w)
    after_is k w = go (holds 47 w) refl
      where
        go : (x : Bool) → holds 47 w ≡ x
            → (more k w || any_entry (later_keys ed k 1 ed.keys) w)
            ≡ ended (cond x (next k w) (given (more k w) k))
        go true h = rw (more_oblique k w h, entries_item k 1 ed.keys w apart h) (sym (given_ended (item k (ranked w) w) (ranked w)))
        go false h = rw (entries_plain k 1 ed.keys w h) (or-false (more k w) ∙ sym (given_ended (more k w) k))

    more_right : (k : ℕ) (s : List ℕ) → IsPlace (more k) s (more_place ed k s)
    more_right k s = go (ltb 0 k) (not (single (rule_in ed k)))
      where
        go : (x y : Bool) → IsPlace (λ w. x && (y && word_fits (rule_in ed k) w)) s (cond (x && y) (rule_place (rule_in ed k) s) 0)
        go true true = rule_right (rule_in ed k) s
        go true false = no_place s
        go false y = no_place s

    keys_right : (k j : ℕ) (vs : List Word) → all (all sign) vs ≡ true → AllRight (later_keys ed k j vs)
    keys_right k j [] n = none_left
    keys_right k j (v ∷ vs) n = let q = both (all sign v) (all (all sign) vs) n in go (ltb k j) q.0 (keys_right k (suc j) vs q.1)
      where
        go : (x : Bool) → all sign v ≡ true → AllRight (later_keys ed k (suc j) vs)
            → AllRight (cond x (keyed v (rule_in ed j) ∷ later_keys ed k (suc j) vs) (later_keys ed k (suc j) vs))
        go true p r = and_then (record { right = rule_right (rule_in ed j); one = rule_one (rule_in ed j); plain = all-free sign 47 refl v p }) r
        go false p r = r

    pub word_right : (k : ℕ) (s : Word) → IsPlace (λ w. ended ((items ed).after k w)) s (items_word ed k s)
    word_right k s =
        place_of_language (λ w. more k w || any_entry (later_keys ed k 1 ed.keys) w) (λ w. ended ((items ed).after k w)) (after_is k) s (items_word ed k s)
        (either_place (more k) (any_entry (later_keys ed k 1 ed.keys)) s (more_place ed k s) (entries_place (later_keys ed k 1 ed.keys) s)
        (more_right k s) (entries_place_lem (later_keys ed k 1 ed.keys) (keys_right k 1 ed.keys named) s))

    -- WORDS

    key_signs : (k : ℕ) (v : Word) → ltb k (rank_in ed v) ≡ true → all sign v ≡ true
    key_signs k v e =
        let h : k < rank_in ed v = ltb-true k (rank_in ed v) e in
        of_elem (all sign) ed.keys named v
        (sym (rank-elem 1 v ed.keys (omega arith)) ∙ ap not (ne_eqb (rank_in ed v) 0 (λ q. omega arith)))

    no_space : (k : ℕ) (w : Word) → ended ((items ed).after k w) ≡ true → free 32 w ≡ true
    no_space k w = go (holds 47 w) refl
      where
        go : (x : Bool) → holds 47 w ≡ x → ended (cond x (next k w) (given (more k w) k)) ≡ true → free 32 w ≡ true
        go true h e =
            let a = both (ltb k (ranked w)) (under w) (sym (given_ended (item k (ranked w) w) (ranked w)) ∙ e) in
            ap (free 32) (sym (seam 47 w h))
            ∙ all_append (λ b. not (eqb b 32)) (before 47 w) (47 ∷ behind 47 w) (all-free sign 32 refl (before 47 w) (key_signs k (before 47 w) a.0))
            (word_spaceless (rule_in ed (ranked w)) (behind 47 w) a.1)
        go false h e =
            let a = both (ltb 0 k) (more_fits (rule_in ed k) w) (sym (given_ended (more k w) k) ∙ e) in
            word_spaceless (rule_in ed k) w (both (not (single (rule_in ed k))) (word_fits (rule_in ed k) w) a.1).1

    alive : (k j : ℕ) (w : Word) → (items ed).after k w ≡ Some j → ((items ed).final j || (items ed).goes j) ≡ true
    alive k j w = go (holds 47 w)
      where
        fin : ltb 0 j ≡ true → ((items ed).final j || (items ed).goes j) ≡ true
        fin e = rw e

        go : (x : Bool) → cond x (next k w) (given (more k w) k) ≡ Some j → ((items ed).final j || (items ed).goes j) ≡ true
        go true e =
            let a = given_some (item k (ranked w) w) (ranked w) j e in
            let l : k < ranked w = ltb-true k (ranked w) (both (ltb k (ranked w)) (under w) a.0).0 in
            fin (lt-ltb 0 j (omega (arith, a.1)))
        go false e =
            let a = given_some (more k w) k j e in
            fin (ap (ltb 0) (sym a.1) ∙ (both (ltb 0 k) (more_fits (rule_in ed k) w) a.0).0)

    goes_on_lem : (k : ℕ) → (items ed).goes k ≡ true → (w : Word) × (j : ℕ) × ((items ed).after k w ≡ Some j) × ((items ed).final j ≡ true)
    goes_on_lem k = go (ltb 0 k && not (single (rule_in ed k))) refl
      where
        go : (x : Bool) → (ltb 0 k && not (single (rule_in ed k))) ≡ x → (x || ltb k (length ed.keys)) ≡ true
            → (w : Word) × (j : ℕ) × ((items ed).after k w ≡ Some j) × ((items ed).final j ≡ true)
        go true q h =
            let a = both (ltb 0 k) (not (single (rule_in ed k))) q in
            let o = rule_one (rule_in ed k) in
            (o.0, k, rw (word_plain (rule_in ed k) o.0 o.1, a.0, a.1, o.1), a.0)
        go false q h =
            let l : k < length ed.keys = ltb-true k (length ed.keys) h in
            let v = get_or ed.keys k [] in
            let r : rank_in ed v ≡ suc k = rank_at 1 ed.keys k apart l ∙ (let z : 1 + k ≡ suc k = omega arith in z) in
            let o = rule_one (rule_in ed (suc k)) in
            let f : free 47 v ≡ true = all-free sign 47 refl v (of_elem (all sign) ed.keys named v (elem_at ed.keys k l)) in (
              v ++ (47 ∷ o.0),
              suc k,
              rw (holds_seam 47 v o.0 f, before_seam 47 v o.0 f, behind_seam 47 v o.0 f, r, lt-ltb k (suc k) (omega arith), o.1),
              lt-ltb 0 (suc k) (omega arith),
            )

    closed : (k : ℕ) → (items ed).goes k ≡ false → (w : Word) → (items ed).after k w ≡ None
    closed k g w = go (holds 47 w) (ltb 0 k && not (single (rule_in ed k))) refl g
      where
        off : (b : Bool) (n : ℕ) → b ≡ false → given b n ≡ None
        off true n e = absurd (true≢false e)
        off false n e = refl

        more_off : (x y z : Bool) → (x && y) ≡ false → (x && (y && z)) ≡ false
        more_off true true z e = absurd (true≢false e)
        more_off true false z e = refl
        more_off false y z e = refl

        go : (x y : Bool) → (ltb 0 k && not (single (rule_in ed k))) ≡ y → (y || ltb k (length ed.keys)) ≡ false
            → cond x (next k w) (given (more k w) k) ≡ None
        go x true q h = absurd (true≢false h)
        go true false q h =
            let l : length ed.keys ≤ k = ltb-false k (length ed.keys) h in
            let m : ranked w < 1 + length ed.keys = rank_most 1 (before 47 w) ed.keys (omega arith) in
            off (item k (ranked w) w) (ranked w) (rw (le-ltb k (ranked w) (omega arith)))
        go false false q h = off (more k w) k (more_off (ltb 0 k) (not (single (rule_in ed k))) (word_fits (rule_in ed k) w) q)

    -- THE LANGUAGE

    choose : (b : Bool) (k : ℕ) (ws : List Word) → words_fit (items ed) ws (given b k) ≡ (b && words_fit (items ed) ws (Some k))
    choose true k ws = refl
    choose false k ws = none_fits (items ed) ws

    -- a word that is cut at an oblique, and the words behind it
    item_fit : (k : ℕ) (w : Word) (ws : List Word) → ((j : ℕ) → 0 < j → words_fit (items ed) ws (Some j) ≡ fit_more ed j ws)
        → words_fit (items ed) ws (next k w)
        ≡ (ltb k (ranked w) && (under w && fit_more ed (ranked w) ws))
    item_fit k w ws ih =
        choose (item k (ranked w) w) (ranked w) ws
        ∙ and_assoc (ltb k (ranked w)) (under w) (words_fit (items ed) ws (Some (ranked w)))
        ∙ go (ltb k (ranked w)) refl
      where
        go : (x : Bool) → ltb k (ranked w) ≡ x
            → (x && (under w && words_fit (items ed) ws (Some (ranked w))))
            ≡ (x && (under w && fit_more ed (ranked w) ws))
        go true e =
            let l : k < ranked w = ltb-true k (ranked w) e in
            ap (λ (b : Bool). under w && b) (ih (ranked w) (omega arith))
        go false e = refl

    more_fit : (ws : List Word) (k : ℕ) → 0 < k → words_fit (items ed) ws (Some k) ≡ fit_more ed k ws
    more_fit [] k l = lt-ltb 0 k l
    more_fit (w ∷ ws) k l = go (holds 47 w) refl (more_fit ws)
      where
        go : (x : Bool) → holds 47 w ≡ x → ((j : ℕ) → 0 < j → words_fit (items ed) ws (Some j) ≡ fit_more ed j ws)
            → words_fit (items ed) ws (cond x (next k w) (given (more k w) k)) ≡ fit_more ed k (w ∷ ws)
        go true h ih =
            item_fit k w ws ih
            ∙ sym
            (more_step ed k w ws
            ∙ ap (λ (b : Bool). cond b (fit_from ed k (w ∷ ws)) (more_fits (rule_in ed k) w && fit_more ed k ws)) h
            ∙ fit_step ed k w ws
            ∙ ap (λ (b : Bool). b && (ltb k (ranked w) && (under w && fit_more ed (ranked w) ws))) h)
        go false h ih =
            choose (more k w) k ws
            ∙ ap (λ (b : Bool). (b && more_fits (rule_in ed k) w) && words_fit (items ed) ws (Some k)) (lt-ltb 0 k l)
            ∙ ap (λ (b : Bool). more_fits (rule_in ed k) w && b) (ih k l)
            ∙ sym (more_step ed k w ws ∙ ap (λ (b : Bool). cond b (fit_from ed k (w ∷ ws)) (more_fits (rule_in ed k) w && fit_more ed k ws)) h)

    items_is : (s : List ℕ) → content_fits (items ed) 0 s ≡ fit_from ed 0 (split 32 s)
    items_is s = go (split 32 s) (null-split 32 s)
      where
        first : (w : Word) (ws : List Word) (x : Bool) → holds 47 w ≡ x
            → words_fit (items ed) ws (cond x (next 0 w) (given (more 0 w) 0)) ≡ fit_from ed 0 (w ∷ ws)
        first w ws true h =
            item_fit 0 w ws (more_fit ws)
            ∙ sym
            (fit_step ed 0 w ws
            ∙ ap (λ (b : Bool). b && (ltb 0 (ranked w) && (under w && fit_more ed (ranked w) ws))) h)
        first w ws false h =
            none_fits (items ed) ws
            ∙ sym
            (fit_step ed 0 w ws
            ∙ ap (λ (b : Bool). b && (ltb 0 (ranked w) && (under w && fit_more ed (ranked w) ws))) h)

        go : (ws : List Word) → null ws ≡ false → words_fit (items ed) ws (Some 0) ≡ fit_from ed 0 ws
        go [] h = absurd (true≢false h)
        go (w ∷ ws) h = first w ws (holds 47 w) refl

    items_right : (s : List ℕ) → IsPlace (content_fits (items ed) 0) s (words_place (items ed) (items_word ed) 0 (split 32 s))
    items_right = words_place_lem (items ed) (items_word ed) word_right no_space alive goes_on_lem closed 0

    whole_is : (s : List ℕ) → (same (bytes "0") s || content_fits (items ed) 0 s) ≡ fits_in ed s
    unfolding fits_in
    whole_is s = rw (same_swap (bytes "0") s, items_is s) (or_cond (same s (bytes "0")) (fit_from ed 0 (split 32 s)))

-- FIELD 18

pub placed18_in : (ed : Edition18) → sound_keys ed ≡ true → (s : List ℕ) → IsPlace (fits_in ed) s (place18 ed s)
unfolding sound_keys place18 items_place
placed18_in ed h s =
    let k = both (all (all sign) ed.keys) (distinct ed.keys) h in
    place_of_language (λ t. same (bytes "0") t || content_fits (items ed) 0 t) (fits_in ed) (whole_is ed k.0 k.1) s
    (place18 ed s)
    (either_place (same (bytes "0")) (content_fits (items ed) 0) s (matched (bytes "0") s) (words_place (items ed) (items_word ed) 0 (split 32 s))
    (label_place_lem (bytes "0") s) (items_right ed k.0 k.1 s))

base_sound : sound_keys base ≡ true
unfolding sound_keys base
base_sound = refl

pub placed18 : (s : List ℕ) → IsPlace fits18 s (place18 base s)
placed18 = placed18_in base base_sound
