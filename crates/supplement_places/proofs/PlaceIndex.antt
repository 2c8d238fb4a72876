-- The places of field 19 at an index, for the code. Assumes nothing.
use Prim.Native.Nat.{ℕ, suc, ◌+◌, ◌≤◌}
use mathlib.Core.Path.{◌≡◌, refl, sym, ap, ◌∙◌}
use mathlib.Core.Bool.{Bool, cond}
use mathlib.Core.List.{List, [], ◌∷◌, ◌++◌}
use mathlib.Core.Logic.{⊎_elim}
use native.Mathlib.Omega.{arith}
use lib.ListN.{length, length-append}
use borrow.Author.Tests.{le-leb}
use types.Run.{OneOf}
use Rattle.alphabet.specs.Text.{bytes}
use Rattle.alphabet.specs.Alphabet.{text}
use Rattle.text.specs.Words.{Word, leading}
use Rattle.places.specs.Parts.{passes}
use Rattle.supplement.specs.Field19.{keyed, by_letter, letters_fit, some_of}
use Rattle.supplement.specs.declared.Stage.{Stage}
use Rattle.supplement_places.specs.Places.{first_word_place, item_place, word_place}
use Rattle.supplement_places.proofs.WordPlaces.{begins_right}
use Rattle.supplement_places.proofs.Places.{word_right}

-- LETTERS OF A SET, none twice

-- no prefix that is tried is empty
pub letters_listed : (set p w : List ℕ) → passes (some_of set) p w ≡ passes (letters_fit set) p w
letters_listed set p [] = refl
letters_listed set p (b ∷ w) =
    let q = p ++ (b ∷ []) in
    let l : length q ≡ length p + 1 = length-append p (b ∷ []) in
    let e : letters_fit set q ≡ some_of set q = rw (le-leb 1 (length q) (omega arith)) in
    ap (λ (n : ℕ). cond (some_of set q) (suc n) 0) (letters_listed set q w) ∙ ap (λ (x : Bool). cond x (suc (passes (letters_fit set) q w)) 0) (sym e)

-- THE FIRST WORD OF AN ITEM

-- the keys of text
pub text_key : (b : ℕ) (w : Word) → OneOf (bytes "ACN") b → first_word_place (by_letter b) w ≡ leading text w
unfolding keyed
text_key b w = ⊎_elim (λ e. rw e) (⊎_elim (λ e. rw e) (λ e. rw e))

-- A WORD THAT BEGINS AN ITEM

pub item_within : (stage : Stage) (w : Word) → item_place stage w ≤ length w
item_within stage w = (begins_right stage w).within

-- WORD BY WORD, where the next word ends at e

pub word_within : (stage : Stage) (w : Word) → word_place stage w ≤ length w
word_within stage w = (word_right stage w).within
