-- What the words of field 19 may be: each is a text word, and no word is of two kinds where that would matter. Assumes nothing.
use Prim.Native.Nat.{ℕ}
use mathlib.Core.Path.{◌≡◌, refl, sym, ◌∙◌}
use mathlib.Core.Bool.{Bool, true, false, ◌&&◌, not, false≢true}
use mathlib.Core.List.{List, [], ◌∷◌}
use native.Mathlib.Omega.{arith}
use lib.Dec.{leb, eqb}
use lib.ListN.{length}
use borrow.Author.Tests.{not-true, leb-true, lt-leb}
use Rattle.alphabet.specs.Alphabet.{letter, digit, text, one_of}
use Rattle.text.specs.Words.{Word, all, same, text_word}
use Rattle.text.proofs.Tests.{both, of_one, other}
use Rattle.text.proofs.Tidy.{sign_text, letter_sign, digit_sign, text_word_lem}
use Rattle.shape.proofs.Numbers.{digit_range}
use Rattle.supplement.specs.Field19.{count, letters_fit, some_of, colour, cover}

-- KINDS APART

-- digits are neither the cover nor a colour
pub no_shade : (most : ℕ) (w : Word) → count most w ≡ true → (same w cover ≡ false) × (colour w ≡ false)
no_shade most [] e = absurd (false≢true e)
no_shade most (b ∷ w) e =
    let g = both (leb 1 (length (b ∷ w))) _ e in
    let h = both (leb (length (b ∷ w)) most) (all digit (b ∷ w)) g.1 in
    let d = both (digit b) (all digit w) h.1 in
    let r = digit_range b d.0 in
    (rw (not-true (eqb b 67) (other digit 67 refl b d.0)), go (leb 2 (length (b ∷ w))) (lt-leb 65 b (omega arith)))
  where
    go : (t : Bool) → leb 65 b ≡ false → (t && (letter b && all letter w)) ≡ false
    go true q = rw q
    go false q = refl

-- so a colour is no count
pub colour_no_count : (most : ℕ) (w : Word) → colour w ≡ true → count most w ≡ false
colour_no_count most w e = go (count most w) refl
  where
    go : (b : Bool) → count most w ≡ b → b ≡ false
    go true q = absurd (false≢true (sym (no_shade most w q).1 ∙ e))
    go false q = refl

-- and not the cover, which is one letter
pub colour_no_cover : (w : Word) → colour w ≡ true → same w cover ≡ false
colour_no_cover [] e = refl
colour_no_cover (b ∷ []) e = absurd (false≢true e)
colour_no_cover (b ∷ (c ∷ w)) e = go (eqb b 67)
  where
    go : (t : Bool) → (t && false) ≡ false
    go true = refl
    go false = refl

-- TEXT WORDS

pub digit_text : (b : ℕ) → digit b ≡ true → text b ≡ true
digit_text b e = sign_text b (digit_sign b e)

letter_text : (b : ℕ) → letter b ≡ true → text b ≡ true
letter_text b e = sign_text b (letter_sign b e)

letters_all : (p : ℕ → Bool) (set : List ℕ) → all p set ≡ true → (w : Word) → letters_fit set w ≡ true → all p w ≡ true
letters_all p set a [] e = refl
letters_all p set a (b ∷ w) e =
    let h = both (one_of b set) _ e in
    rw (of_one p set a b h.0) (letters_all p set a w (both (not (one_of b w)) _ h.1).1)

pub count_text : (most : ℕ) (w : Word) → count most w ≡ true → text_word w ≡ true
count_text most w e =
    let h = both (leb 1 (length w)) _ e in
    text_word_lem digit digit_text w (leb-true 1 (length w) h.0) (both (leb (length w) most) (all digit w) h.1).1

pub some_text : (set : List ℕ) → all letter set ≡ true → (w : Word) → some_of set w ≡ true → text_word w ≡ true
some_text set a w e =
    let h = both (leb 1 (length w)) _ e in
    text_word_lem letter letter_text w (leb-true 1 (length w) h.0) (letters_all letter set a w h.1)

pub colour_text : (w : Word) → colour w ≡ true → text_word w ≡ true
colour_text w e =
    let h = both (leb 2 (length w)) _ e in
    let l = leb-true 2 (length w) h.0 in
    text_word_lem letter letter_text w (omega arith) h.1
