-- Contents as a spelling has them: of one word, and of words joined. Assumes nothing.
use Prim.Native.Nat.{ℕ, ◌<◌}
use mathlib.Core.Path.{◌≡◌, refl}
use mathlib.Core.Bool.{Bool, true, false, ◌||◌, not}
use mathlib.Core.List.{List, [], ◌∷◌, ◌++◌}
use lib.Dec.{eqb}
use native.Mathlib.Omega.{arith}
use lib.ListN.{length, length-append}
use borrow.Author.Tests.{not-true}
use Rattle.alphabet.specs.Text.{bytes}
use Rattle.alphabet.specs.Alphabet.{one_of, letter, digit, sign, text, in_alphabet, white}
use Rattle.text.specs.Words.{Word, join, holds, before, behind, all, null, free, text_word, tidy_byte, tidy_word, tidy}
use Rattle.text.proofs.Tests.{both, and_both, all_imp, all_append, all-free, other, some_length}
use Rattle.text.proofs.Joined.{split-join, seam}

-- a byte of a tidy word is no space, no hyphen, no parenthesis
pub no_space : tidy_byte 32 ≡ false
unfolding text in_alphabet white
no_space = refl

pub no_hyphen : tidy_byte 45 ≡ false
unfolding text in_alphabet white
no_hyphen = refl

pub no_opening : tidy_byte 40 ≡ false
unfolding text in_alphabet white
no_opening = refl

pub no_closing : tidy_byte 41 ≡ false
unfolding text in_alphabet white
no_closing = refl

pub word_free : (w : Word) → tidy_word w ≡ true → free 32 w ≡ true
word_free w e = all-free tidy_byte 32 no_space w (both (not (null w)) (all tidy_byte w) e).1

-- WHICH BYTES ARE TIDY

-- a byte that passes a test is none of a list of bytes that fail it
not_one : (p : ℕ → Bool) (b : ℕ) → p b ≡ true → (xs : List ℕ) → all (λ x. not (p x)) xs ≡ true → one_of b xs ≡ false
not_one p b e [] a = refl
not_one p b e (x ∷ xs) a =
    let h = both (not (p x)) (all (λ x. not (p x)) xs) a in
    rw (not-true (eqb b x) (other p x (not-true (p x) h.0) b e)) (not_one p b e xs h.1)

pub sign_text : (b : ℕ) → sign b ≡ true → text b ≡ true
unfolding text in_alphabet white
sign_text b e = rw (e, not_one sign b e (bytes " \r\n") refl, not_one sign b e (bytes "()-/") refl)

pub text_tidy : (b : ℕ) → text b ≡ true → tidy_byte b ≡ true
text_tidy b e = rw e

pub sign_tidy : (b : ℕ) → sign b ≡ true → tidy_byte b ≡ true
sign_tidy b e = text_tidy b (sign_text b e)

pub letter_sign : (b : ℕ) → letter b ≡ true → sign b ≡ true
letter_sign b e = rw e

pub digit_sign : (b : ℕ) → digit b ≡ true → sign b ≡ true
digit_sign b e = go (letter b)
  where
    go : (t : Bool) → (t || digit b) ≡ true
    go true = refl
    go false = e

pub letter_tidy : (b : ℕ) → letter b ≡ true → tidy_byte b ≡ true
letter_tidy b e = sign_tidy b (letter_sign b e)

pub digit_tidy : (b : ℕ) → digit b ≡ true → tidy_byte b ≡ true
digit_tidy b e = sign_tidy b (digit_sign b e)

pub oblique_tidy : tidy_byte 47 ≡ true
unfolding text in_alphabet white
oblique_tidy = refl

-- TEXT WORDS

-- a word of one or more bytes that pass a test, where all that pass it are bytes of text words
pub text_word_lem : (p : ℕ → Bool) → ((b : ℕ) → p b ≡ true → text b ≡ true) → (w : Word) → 0 < length w → all p w ≡ true → text_word w ≡ true
text_word_lem p f w h e = and_both (not (null w)) (all text w) (some_length w h) (all_imp p text f w e)

no_oblique : text 47 ≡ false
unfolding text in_alphabet white
no_oblique = refl

-- a text word holds no oblique, and is tidy
pub text_word_free : (w : Word) → text_word w ≡ true → free 47 w ≡ true
text_word_free w e = all-free text 47 no_oblique w (both (not (null w)) (all text w) e).1

pub text_word_tidy : (w : Word) → text_word w ≡ true → tidy_word w ≡ true
text_word_tidy w e =
    let h = both (not (null w)) (all text w) e in
    and_both (not (null w)) (all tidy_byte w) h.0 (all_imp text tidy_byte text_tidy w h.1)

-- WHICH CONTENTS ARE TIDY

-- a word of one or more bytes that pass a test, where all that pass it are tidy
pub tidy_word_lem : (p : ℕ → Bool) → ((b : ℕ) → p b ≡ true → tidy_byte b ≡ true) → (w : Word) → 0 < length w → all p w ≡ true → tidy_word w ≡ true
tidy_word_lem p f w h e = and_both (not (null w)) (all tidy_byte w) (some_length w h) (all_imp p tidy_byte f w e)

-- a word with an oblique, from what stands before it and behind it
pub tidy_cut : (w : Word) → holds 47 w ≡ true → all tidy_byte (before 47 w) ≡ true → all tidy_byte (behind 47 w) ≡ true → tidy_word w ≡ true
tidy_cut w h p q =
    rw (seam 47 w h) at
    (tidy_word_lem tidy_byte (λ b t. t) (before 47 w ++ (47 ∷ behind 47 w)) (simp length-append (omega arith))
    (all_append tidy_byte (before 47 w) (47 ∷ behind 47 w) p (rw oblique_tidy q)))

-- words joined by spaces
pub tidy-join : (w : Word) (ws : List Word) → all tidy_word (w ∷ ws) ≡ true → tidy (join 32 (w ∷ ws)) ≡ true
unfolding tidy
tidy-join w ws e = rw (split-join 32 w ws (all_imp tidy_word (free 32) word_free (w ∷ ws) e)) e

-- one word
pub tidy_one : (w : Word) → tidy_word w ≡ true → tidy w ≡ true
tidy_one w e = tidy-join w [] (and_both (tidy_word w) true e refl)
