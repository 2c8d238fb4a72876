-- The place of so many bytes of a set at least, and so of a text word; how long a word at an index is. Assumes nothing.
use Prim.Native.Nat.{ℕ, suc, ◌+◌, ◌-◌, ◌≤◌}
use mathlib.Core.Path.{◌≡◌, refl, sym, ◌∙◌, subst}
use mathlib.Core.Bool.{Bool, true, false, ◌&&◌, not}
use mathlib.Core.List.{List, [], ◌∷◌, ◌++◌}
use native.Mathlib.Omega.{arith}
use lib.Dec.{leb}
use lib.ListN.{length, take, drop, length-drop}
use lib.Seq.{length-take-le}
use borrow.Author.Tests.{le-leb}
use Rattle.alphabet.specs.Alphabet.{text, in_alphabet, white}
use Rattle.text.specs.Words.{all, null, free, text_word, leading}
use Rattle.text.proofs.Tests.{both, and_both}
use Rattle.text.proofs.Tidy.{text_word_tidy, word_free}
use Rattle.places.specs.Place.{IsPlace}
use Rattle.places.specs.Parts.{run_fits, run_place}
use Rattle.places.proofs.Place.{place_of_language}
use Rattle.places.proofs.Leaves.{front_le, run_place_lem}

-- SO MANY BYTES OF A SET AT LEAST: the place is the first byte that is not of it

module _ (least : ℕ) (p : ℕ → Bool) (b : ℕ) (e : p b ≡ true) where
  abbrev at_least : List ℕ → Bool
  at_least w = leb least (length w) && all p w

  -- one of at most so many, where there are no more
  as_run : (most : ℕ) (w : List ℕ) → length w ≤ most → run_fits least most p w ≡ at_least w
  as_run most w h = rw (le-leb (length w) most h)

  run_long : (most : ℕ) (w : List ℕ) → run_fits least most p w ≡ true → at_least w ≡ true
  run_long most w h =
      let g = both (leb least (length w)) (leb (length w) most && all p w) h in
      and_both (leb least (length w)) (all p w) g.0 (both (leb (length w) most) (all p w) g.1).1

  front_run : (most : ℕ) (s : List ℕ) → length s ≤ most → run_place most p s ≡ leading p s
  front_run most s h = let l = front_le p s in omega arith

  bounded : (most : ℕ) (s : List ℕ) → least + length s ≤ most → IsPlace (run_fits least most p) s (leading p s)
  bounded most s h = subst (IsPlace (run_fits least most p) s) (front_run most s (omega arith)) (run_place_lem least most p (omega arith) b e s)

  pub many_place : (s : List ℕ) → IsPlace at_least s (leading p s)
  many_place s =
      record {
        within = front_le p s;
        before = λ k h. let r = (bounded (least + length s) s (omega arith)).before k h in (r.0, run_long (least + length s) (take (suc k) s ++ r.0) r.1);
        there = λ h t. off (take (suc (leading p s)) s ++ t) (λ most l. (bounded most s l).there h t);
      }
    where
      off : (w : List ℕ) → ((most : ℕ) → least + length s ≤ most → run_fits least most p w ≡ false) → at_least w ≡ false
      off w f = sym (as_run (least + length s + length w) w (omega arith)) ∙ f (least + length s + length w) (omega arith)

-- one or more
pub some_place_lem : (p : ℕ → Bool) (b : ℕ) → p b ≡ true → (s : List ℕ) → IsPlace (λ w. not (null w) && all p w) s (leading p s)
some_place_lem p b e s =
    place_of_language (λ w. leb 1 (length w) && all p w) (λ w. not (null w) && all p w) same s (leading p s) (many_place 1 p b e s)
  where
    same : (w : List ℕ) → (leb 1 (length w) && all p w) ≡ (not (null w) && all p w)
    same [] = refl
    same (x ∷ w) = rw (le-leb 1 (length (x ∷ w)) (omega arith))

-- A TEXT WORD

pub letter_a : text 65 ≡ true
unfolding text in_alphabet white
letter_a = refl

pub text_place : (s : List ℕ) → IsPlace text_word s (leading text s)
text_place = some_place_lem text 65 letter_a

pub text_free : (w : List ℕ) → text_word w ≡ true → free 32 w ≡ true
text_free w e = word_free w (text_word_tidy w e)

-- A WORD AT AN INDEX

pub word_length : (s : List ℕ) (at e : ℕ) → at ≤ e → e ≤ length s → length (take (e - at) (drop at s)) ≡ e - at
word_length s at e h l = let n : length (drop at s) ≡ length s - at = length-drop at s in length-take-le (e - at) (drop at s) (omega arith)
