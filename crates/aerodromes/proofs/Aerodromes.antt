-- Laws of an aerodrome, of a time joined to it, for every greatest hour of at most 99, and of the words of a content. Assumes nothing.
use Prim.Native.Nat.{ℕ, ◌≤◌}
use mathlib.Core.Path.{◌≡◌, refl, sym, ap, ◌∙◌}
use mathlib.Core.Bool.{true, not}
use mathlib.Core.List.{List, [], ◌∷◌, ◌++◌}
use native.Mathlib.Omega.{arith}
use lib.Dec.{eqb}
use lib.ListN.{length, take, drop, take-append-drop, length-append}
use lib.Seq.{take_at, drop_at}
use borrow.Author.Tests.{eqb-true}
use Rattle.alphabet.specs.Alphabet.{letter, digit}
use Rattle.text.specs.Words.{Word, all, null, free, split, join, tidy_byte, tidy_word, tidy}
use Rattle.text.proofs.Tests.{both, and_both, all_imp, all_append}
use Rattle.text.proofs.Index.{split_cut}
use Rattle.text.proofs.Joined.{join-split, split-join}
use Rattle.text.proofs.Tidy.{letter_tidy, digit_tidy, tidy_word_lem, word_free}
use Rattle.shape.specs.Time.{time_fits, time_minutes, spell_time, valid_time}
use Rattle.shape.proofs.Times.{time_length, time_digits, time_exact, time_valid, time_fits_lem, time_minutes_lem}
use Rattle.aerodromes.specs.Aerodromes.{four_letters, aerodrome_of, joined_of, joined, valid_joined, spell_joined, first, others}

-- AN AERODROME

module _ (w : Word) (e : four_letters w ≡ true) where
  four_parts : (eqb (length w) 4 ≡ true) × (all letter w ≡ true)
  unfolding four_letters
  four_parts = both (eqb (length w) 4) (all letter w) e

  pub four_length : length w ≡ 4
  four_length = eqb-true (length w) 4 four_parts.0

  pub four_letters_lem : all letter w ≡ true
  four_letters_lem = four_parts.1

  pub four_tidy : tidy_word w ≡ true
  four_tidy = tidy_word_lem letter letter_tidy w (omega (arith, four_length)) four_letters_lem

  -- what is joined to it is cut off again
  pub cut_aerodrome : (t : Word) → aerodrome_of (w ++ t) ≡ w
  cut_aerodrome t = take_at w t 4 four_length

  pub cut_joined : (t : Word) → joined_of (w ++ t) ≡ t
  cut_joined t = drop_at w t 4 four_length

some_word : (w : Word) → length (take 4 w) ≡ 4 → not (null w) ≡ true
some_word [] h = absurd (omega arith)
some_word (b ∷ w) h = refl

-- an aerodrome with digits or nothing joined to it
pub digits_tidy : (w : Word) → four_letters (aerodrome_of w) ≡ true → all digit (joined_of w) ≡ true → tidy_word w ≡ true
digits_tidy w e d =
    let a = all_imp letter tidy_byte letter_tidy (take 4 w) (four_letters_lem (take 4 w) e) in
    let b = all_imp digit tidy_byte digit_tidy (drop 4 w) d in
    let t : all tidy_byte w ≡ true = sym (ap (all tidy_byte) (take-append-drop 4 w)) ∙ all_append tidy_byte (take 4 w) (drop 4 w) a b in
    and_both (not (null w)) (all tidy_byte w) (some_word w (four_length (take 4 w) e)) t

-- AN AERODROME AND A TIME

module _ (most : ℕ) (w : Word) (e : joined most w ≡ true) where
  joined_parts : (four_letters (aerodrome_of w) ≡ true) × (time_fits most (joined_of w) ≡ true)
  unfolding joined
  joined_parts = both (four_letters (aerodrome_of w)) (time_fits most (joined_of w)) e

  pub joined_four : four_letters (aerodrome_of w) ≡ true
  joined_four = joined_parts.0

  pub joined_time : time_fits most (joined_of w) ≡ true
  joined_time = joined_parts.1

  pub joined_length : length w ≡ 8
  joined_length =
      sym (ap length (take-append-drop 4 w)) ∙ simp length-append (omega (arith, four_length (take 4 w) joined_four, time_length most (drop 4 w) joined_time))

  pub joined_spelled : spell_joined (aerodrome_of w) (time_minutes (joined_of w)) ≡ w
  joined_spelled = ap (λ (t : Word). take 4 w ++ t) (time_exact most (drop 4 w) joined_time) ∙ take-append-drop 4 w

  pub joined_valid : valid_joined most (aerodrome_of w) (time_minutes (joined_of w)) ≡ true
  joined_valid =
      and_both (four_letters (aerodrome_of w)) (valid_time most (time_minutes (joined_of w))) joined_four (time_valid most (drop 4 w) joined_time)

  pub joined_tidy : tidy_word w ≡ true
  joined_tidy = digits_tidy w joined_four (time_digits most (drop 4 w) joined_time)

module _ (most : ℕ) (a : Word) (n : ℕ) (l : most ≤ 99) (v : valid_joined most a n ≡ true) where
  valid_parts : (four_letters a ≡ true) × (valid_time most n ≡ true)
  valid_parts = both (four_letters a) (valid_time most n) v

  pub joined_aerodrome : aerodrome_of (spell_joined a n) ≡ a
  joined_aerodrome = cut_aerodrome a valid_parts.0 (spell_time n)

  joined_cut : joined_of (spell_joined a n) ≡ spell_time n
  joined_cut = cut_joined a valid_parts.0 (spell_time n)

  pub joined_minutes : time_minutes (joined_of (spell_joined a n)) ≡ n
  joined_minutes = ap time_minutes joined_cut ∙ time_minutes_lem most n l valid_parts.1

  pub joined_fits : joined most (spell_joined a n) ≡ true
  unfolding joined
  joined_fits =
      and_both (four_letters (aerodrome_of (spell_joined a n))) (time_fits most (joined_of (spell_joined a n)))
      (ap four_letters joined_aerodrome ∙ valid_parts.0)
      (ap (time_fits most) joined_cut ∙ time_fits_lem most n l valid_parts.1)

-- THE WORDS OF A CONTENT

words : (s : List ℕ) → split 32 s ≡ first (split 32 s) ∷ others (split 32 s)
words s = let h : split 32 s ≡ _ = split_cut 32 s in h ∙ sym (ap (λ (ws : List Word). first ws ∷ others ws) h)

pub tidy_words : (s : List ℕ) → tidy_word (first (split 32 s)) ≡ true → all tidy_word (others (split 32 s)) ≡ true → tidy s ≡ true
unfolding tidy
tidy_words s p q = ap (all tidy_word) (words s) ∙ and_both (tidy_word (first (split 32 s))) (all tidy_word (others (split 32 s))) p q

-- a content whose first word is an aerodrome and a time
pub words_spelled : (most : ℕ) (s : List ℕ) → joined most (first (split 32 s)) ≡ true
    → join 32 (spell_joined (aerodrome_of (first (split 32 s))) (time_minutes (joined_of (first (split 32 s)))) ∷ others (split 32 s)) ≡ s
words_spelled most s e =
    ap (λ (w : Word). join 32 (w ∷ others (split 32 s))) (joined_spelled most (first (split 32 s)) e) ∙ sym (ap (join 32) (words s)) ∙ join-split 32 s

module _ (most : ℕ) (a : Word) (n : ℕ) (ws : List Word) (l : most ≤ 99) (v : valid_joined most a n ≡ true) (t : all tidy_word ws ≡ true) where
  words_back : split 32 (join 32 (spell_joined a n ∷ ws)) ≡ spell_joined a n ∷ ws
  words_back =
      split-join 32 (spell_joined a n) ws
      (all_imp tidy_word (free 32) word_free (spell_joined a n ∷ ws)
      (and_both (tidy_word (spell_joined a n)) (all tidy_word ws) (joined_tidy most (spell_joined a n) (joined_fits most a n l v)) t))

  pub first_back : first (split 32 (join 32 (spell_joined a n ∷ ws))) ≡ spell_joined a n
  first_back = ap first words_back

  pub others_back : others (split 32 (join 32 (spell_joined a n ∷ ws))) ≡ ws
  others_back = ap others words_back
