-- Parts and the words under their keys determine one another. Assumes nothing.
use Prim.Native.Nat.{ℕ}
use mathlib.Core.Path.{◌≡◌, refl, sym, ap, ap₂, ◌∙◌}
use mathlib.Core.Bool.{Bool, true, false, cond, not, false≢true}
use mathlib.Core.List.{List, [], ◌∷◌, ◌++◌}
use mathlib.Core.Option.{Option, none, some}
use native.Mathlib.Omega.{arith}
use Rattle.alphabet.specs.Alphabet.{digit, text, in_alphabet, white}
use Rattle.text.specs.Words.{Word, all, null, same, text_word}
use Rattle.text.proofs.Tests.{both, and_both, all_imp, all_append, same-eq}
use Rattle.text.proofs.Tidy.{text_word_lem}
use Rattle.shape.specs.Time.{elapsed_hours, spell_elapsed}
use Rattle.shape.specs.declared.Elapsed.{Elapsed}
use Rattle.shape.proofs.Times.{time_exact, time_valid, time_fits_lem, time_minutes_lem, time_digits}
use Rattle.supplement.specs.Field19.{Key, E, P, R, S, J, D, A, N, C, Other}
use Rattle.supplement.specs.Field19.{Count, Part, endurance, persons, radio, survival, jackets, dinghies, aircraft, remarks, pilot, key_of}
use Rattle.supplement.specs.Field19.{count, count_of_word, word_of_count, valid_count, persons_digits, number_digits, capacity_digits, some_of}
use Rattle.supplement.specs.Field19.{colour, radio_letters, survival_letters, light_letters, jacket_radio_letters, cover, texts, optionally}
use Rattle.supplement.specs.Field19.{valid_pair, pair_words, words_of, valid_part, pair_counts, after_pair, after_cover, dinghies_fit, item_fits}
use Rattle.supplement.specs.Field19.{pair_of, covered, part_of}
use Rattle.supplement.proofs.Counts.{count_exact, count_valid, count_fits_lem, count_back}
use Rattle.supplement.proofs.Words.{colour_no_count, colour_no_cover, digit_text, count_text, some_text, colour_text}

-- FROM WORDS THAT FIT TO THEIR PART

pub record Read (k : Key) (ws : List Word) : Type 0 where
  pub key : key_of (part_of k ws) ≡ k
  pub words : words_of (part_of k ws) ≡ ws
  pub valid : valid_part (part_of k ws) ≡ true

-- two words that are a pair
module _ (v w : Word) (e : pair_counts (v, w) ≡ true) where
  pair_parts : (count number_digits v ≡ true) × (count capacity_digits w ≡ true)
  pair_parts = both (count number_digits v) (count capacity_digits w) e

  pair_exact : (ws : List Word) → word_of_count (count_of_word v) ∷ (word_of_count (count_of_word w) ∷ ws) ≡ v ∷ (w ∷ ws)
  pair_exact ws = ap₂ (λ (x y : Word). x ∷ (y ∷ ws)) (count_exact number_digits v pair_parts.0) (count_exact capacity_digits w pair_parts.1)

  pair_held : valid_pair (count_of_word v, count_of_word w) ≡ true
  pair_held = and_both _ _ (count_valid number_digits v pair_parts.0) (count_valid capacity_digits w pair_parts.1)

pair_words_lem : (ws : List Word) → pair_words (pair_of ws) ++ after_pair ws ≡ ws
pair_words_lem [] = refl
pair_words_lem (v ∷ []) = refl
pair_words_lem (v ∷ (w ∷ ws)) = go (pair_counts (v, w)) refl
  where
    go : (b : Bool) → pair_counts (v, w) ≡ b
        → pair_words (cond b (some (count_of_word v, count_of_word w)) none) ++ cond b ws (v ∷ (w ∷ ws)) ≡ v ∷ (w ∷ ws)
    go true e = pair_exact v w e ws
    go false e = refl

pub cover_words : (ws : List Word) → cond (covered ws) (cover ∷ []) [] ++ after_cover ws ≡ ws
cover_words [] = refl
cover_words (w ∷ ws) = go (same w cover) refl
  where
    go : (b : Bool) → same w cover ≡ b → cond b (cover ∷ []) [] ++ cond b ws (w ∷ ws) ≡ w ∷ ws
    go true e = ap (λ (v : Word). v ∷ ws) (sym (same-eq w cover e))
    go false e = refl

pair_valid : (ws : List Word) → optionally valid_pair (pair_of ws) ≡ true
pair_valid [] = refl
pair_valid (v ∷ []) = refl
pair_valid (v ∷ (w ∷ ws)) = go (pair_counts (v, w)) refl
  where
    go : (b : Bool) → pair_counts (v, w) ≡ b → optionally valid_pair (cond b (some (count_of_word v, count_of_word w)) none) ≡ true
    go true e = pair_held v w e
    go false e = refl

dinghies_read : (ws : List Word) → dinghies_fit ws ≡ true → Read D ws
dinghies_read ws e = record { key = refl; words = found; valid = rw (pair_valid ws, h.1, found) h.0 }
  where
    h : (not (null ws) ≡ true) × (all colour (after_cover (after_pair ws)) ≡ true)
    h = both (not (null ws)) (all colour (after_cover (after_pair ws))) e

    found : words_of (part_of D ws) ≡ ws
    found = ap (λ (l : List Word). pair_words (pair_of ws) ++ l) (cover_words (after_pair ws)) ∙ pair_words_lem ws

pub part_read : (k : Key) (ws : List Word) → item_fits k ws ≡ true → Read k ws
part_read E [] e = absurd (false≢true e)
part_read E (w ∷ []) e =
    record { key = refl; words = ap (λ (v : Word). v ∷ []) (time_exact elapsed_hours w e); valid = time_valid elapsed_hours w e }
part_read E (w ∷ (v ∷ ws)) e = absurd (false≢true e)
part_read P [] e = absurd (false≢true e)
part_read P (w ∷ []) e =
    record { key = refl; words = ap (λ (v : Word). v ∷ []) (count_exact persons_digits w e); valid = count_valid persons_digits w e }
part_read P (w ∷ (v ∷ ws)) e = absurd (false≢true e)
part_read R [] e = absurd (false≢true e)
part_read R (w ∷ []) e = record { key = refl; words = refl; valid = e }
part_read R (w ∷ (v ∷ ws)) e = absurd (false≢true e)
part_read S [] e = absurd (false≢true e)
part_read S (w ∷ []) e = record { key = refl; words = refl; valid = e }
part_read S (w ∷ (v ∷ ws)) e = absurd (false≢true e)
part_read J [] e = absurd (false≢true e)
part_read J (w ∷ []) e = record { key = refl; words = refl; valid = e }
part_read J (w ∷ (v ∷ [])) e = record { key = refl; words = refl; valid = e }
part_read J (w ∷ (v ∷ (u ∷ ws))) e = absurd (false≢true (both (some_of light_letters w) false e).1)
part_read D ws e = dinghies_read ws e
part_read A ws e = record { key = refl; words = refl; valid = e }
part_read N ws e = record { key = refl; words = refl; valid = e }
part_read C ws e = record { key = refl; words = refl; valid = e }
part_read Other ws e = absurd (false≢true e)

-- FROM A VALID PART TO ITS WORDS

pub record Back (p : Part) : Type 0 where
  pub fits : item_fits (key_of p) (words_of p) ≡ true
  pub part : part_of (key_of p) (words_of p) ≡ p

-- the words behind the pair

abbrev shades : Bool → List Word → List Word
shades c ws = cond c (cover ∷ []) [] ++ ws

no_pair : (c : Bool) (ws : List Word) → all colour ws ≡ true → (pair_of (shades c ws) ≡ none) × (after_pair (shades c ws) ≡ shades c ws)
no_pair true [] e = (refl, refl)
no_pair true (v ∷ ws) e = (refl, refl)
no_pair false [] e = (refl, refl)
no_pair false (v ∷ []) e = (refl, refl)
no_pair false (v ∷ (w ∷ ws)) e = let h = colour_no_count number_digits v (both (colour v) _ e).0 in (rw h, rw h)

cover_back : (c : Bool) (ws : List Word) → all colour ws ≡ true → (covered (shades c ws) ≡ c) × (after_cover (shades c ws) ≡ ws)
cover_back true ws e = (refl, refl)
cover_back false [] e = (refl, refl)
cover_back false (w ∷ ws) e = let h = colour_no_cover w (both (colour w) _ e).0 in (rw h, rw h)

-- the words of a pair
pair_fits_lem : (p : Count × Count) → valid_pair p ≡ true
    → (pair_counts (word_of_count p.0, word_of_count p.1) ≡ true) × ((count_of_word (word_of_count p.0), count_of_word (word_of_count p.1)) ≡ p)
pair_fits_lem p v =
    let h = both (valid_count number_digits p.0) (valid_count capacity_digits p.1) v in (
      and_both _ _ (count_fits_lem number_digits p.0 h.0) (count_fits_lem capacity_digits p.1 h.1),
      ap₂ (λ (c d : Count). (c, d)) (count_back number_digits p.0 h.0) (count_back capacity_digits p.1 h.1),
    )

pair_back : (o : Option (Count × Count)) (c : Bool) (ws : List Word) → optionally valid_pair o ≡ true → all colour ws ≡ true
    → (pair_of (pair_words o ++ shades c ws) ≡ o) × (after_pair (pair_words o ++ shades c ws) ≡ shades c ws)
pair_back none c ws v e = no_pair c ws e
pair_back (some p) c ws v e = let h = pair_fits_lem p v in (rw h.0 (ap some h.1), rw h.0)

dinghies_back : (o : Option (Count × Count)) (c : Bool) (ws : List Word) → valid_part (dinghies o c ws) ≡ true → Back (dinghies o c ws)
dinghies_back o c ws v =
    let h = both (optionally valid_pair o) _ v in
    let g = both (all colour ws) _ h.1 in
    let p = pair_back o c ws h.0 g.0 in
    let q = cover_back c ws g.0 in
    record { fits = rw (g.1, p.1, q.1) g.0; part = rw (p.0, p.1, q.0, q.1) }

pub part_back : (p : Part) → valid_part p ≡ true → Back p
part_back (endurance t) v =
    record {
      fits = time_fits_lem elapsed_hours t.0 (omega arith) v;
      part = ap (λ (n : ℕ). endurance (record { 0 = n })) (time_minutes_lem elapsed_hours t.0 (omega arith) v);
    }
part_back (persons c) v = record { fits = count_fits_lem persons_digits c v; part = ap persons (count_back persons_digits c v) }
part_back (radio w) v = record { fits = v; part = refl }
part_back (survival w) v = record { fits = v; part = refl }
part_back (jackets w none) v = record { fits = v; part = refl }
part_back (jackets w (some u)) v = record { fits = v; part = refl }
part_back (dinghies o c ws) v = dinghies_back o c ws v
part_back (aircraft ws) v = record { fits = v; part = refl }
part_back (remarks ws) v = record { fits = v; part = refl }
part_back (pilot ws) v = record { fits = v; part = refl }

-- THE WORDS OF A VALID PART are text words, one or more

one_text : (w : Word) → text_word w ≡ true → all text_word (w ∷ []) ≡ true
one_text w e = rw e

elapsed_text : (t : Elapsed) → valid_part (endurance t) ≡ true → text_word (spell_elapsed t) ≡ true
elapsed_text t v =
    let f = time_fits_lem elapsed_hours t.0 (omega arith) v in
    text_word_lem digit digit_text (spell_elapsed t) (omega arith) (time_digits elapsed_hours (spell_elapsed t) f)

count_word_text : (most : ℕ) (c : Count) → valid_count most c ≡ true → text_word (word_of_count c) ≡ true
count_word_text most c v = count_text most (word_of_count c) (count_fits_lem most c v)

pair_text : (o : Option (Count × Count)) → optionally valid_pair o ≡ true → all text_word (pair_words o) ≡ true
pair_text none v = refl
pair_text (some p) v =
    let h = both (valid_count number_digits p.0) (valid_count capacity_digits p.1) v in
    rw (count_word_text number_digits p.0 h.0, count_word_text capacity_digits p.1 h.1)

shades_text : (c : Bool) (ws : List Word) → all colour ws ≡ true → all text_word (shades c ws) ≡ true
unfolding text in_alphabet white
shades_text true ws e = all_imp colour text_word colour_text ws e
shades_text false ws e = all_imp colour text_word colour_text ws e

pub part_texts : (p : Part) → valid_part p ≡ true → texts (words_of p) ≡ true
part_texts (endurance t) v = one_text (spell_elapsed t) (elapsed_text t v)
part_texts (persons c) v = one_text (word_of_count c) (count_word_text persons_digits c v)
part_texts (radio w) v = one_text w (some_text radio_letters refl w v)
part_texts (survival w) v = one_text w (some_text survival_letters refl w v)
part_texts (jackets w none) v = one_text w (some_text light_letters refl w (both (some_of light_letters w) true v).0)
part_texts (jackets w (some u)) v =
    let h = both (some_of light_letters w) (some_of jacket_radio_letters u) v in
    rw (some_text light_letters refl w h.0) (one_text u (some_text jacket_radio_letters refl u h.1))
part_texts (dinghies o c ws) v =
    let h = both (optionally valid_pair o) _ v in
    let g = both (all colour ws) _ h.1 in
    and_both (not (null (pair_words o ++ shades c ws))) (all text_word (pair_words o ++ shades c ws)) g.1
    (all_append text_word (pair_words o) (shades c ws) (pair_text o h.0) (shades_text c ws g.0))
part_texts (aircraft ws) v = v
part_texts (remarks ws) v = v
part_texts (pilot ws) v = v
