-- Shapes at an index. Assumes nothing.
use Prim.Native.Nat.{ℕ, suc, ◌+◌, ◌<◌, ◌≤◌}
use mathlib.Core.Path.{◌≡◌, refl, sym, ap, ◌∙◌}
use Rattle.std.specs.List.{list_any}
use mathlib.Core.Bool.{Bool, true, false, cond, ◌&&◌, ◌||◌, false≢true}
use mathlib.Core.List.{List, [], ◌∷◌}
use lib.Dec.{eqb}
use lib.ListN.{length, drop, get_or}
use borrow.Author.Tests.{eq-eqb, eqb-true, ne_eqb}
use Rattle.alphabet.specs.Alphabet.{digit, one_of}
use Rattle.text.specs.Words.{Word, all}
use Rattle.text.proofs.Index.{drop_here, drop_end}
use Rattle.text.proofs.Tests.{both}
use Rattle.shape.specs.Shape.{in_class, fits, copies, any}

-- A BYTE OF A SET

either : (t u : Bool) → cond t true u ≡ (t || u)
either true u = refl
either false u = refl

swapped : (a b : ℕ) → eqb a b ≡ eqb b a
swapped a b = go (eqb b a) refl
  where
    go : (t : Bool) → eqb b a ≡ t → eqb a b ≡ t
    go true e = eq-eqb a b (sym (eqb-true b a e))
    go false e = ne_eqb a b (λ h. false≢true (sym e ∙ eq-eqb b a (sym h)))

pub contained : (b : ℕ) (set : List ℕ) → list_any (λ x. eqb x b) set ≡ one_of b set
contained b [] = refl
contained b (x ∷ set) = rw swapped (ap (λ (r : Bool). eqb b x || r) (contained b set) ∙ sym (either (eqb b x) (one_of b set)))

-- A SHAPE

pub fits_lengths : (t w : Word) → fits t w ≡ true → length w ≡ length t
fits_lengths [] [] e = refl
fits_lengths [] (b ∷ w) e = absurd (false≢true e)
fits_lengths (t ∷ ts) [] e = absurd (false≢true e)
fits_lengths (t ∷ ts) (b ∷ w) e = ap suc (fits_lengths ts w (both (in_class t b) (fits ts w) e).1)

pub fits_other : (t w : Word) → (length t ≡ length w → ⊥) → fits t w ≡ false
fits_other t w h = go (fits t w) refl
  where
    go : (b : Bool) → fits t w ≡ b → b ≡ false
    go true e = absurd (h (sym (fits_lengths t w e)))
    go false e = refl

-- a shape of digits alone, as long as the word
pub fits_digits : (w : Word) → fits (copies (length w)) w ≡ all digit w
fits_digits [] = refl
fits_digits (b ∷ w) = ap (λ (r : Bool). digit b && r) (fits_digits w)

pub fits_stop : (t w : Word) (i : ℕ) → i < length t → i < length w → in_class (get_or t i 0) (get_or w i 0) ≡ false → fits (drop i t) (drop i w) ≡ false
fits_stop t w i h k e = rw (drop_here t i h, drop_here w i k, e)

pub fits_next : (t w : Word) (i : ℕ) → i < length t → i < length w → in_class (get_or t i 0) (get_or w i 0) ≡ true
    → fits (drop i t) (drop i w) ≡ fits (drop (i + 1) t) (drop (i + 1) w)
fits_next t w i h k e = rw (drop_here t i h, drop_here w i k, e)

pub fits_end : (t w : Word) (i : ℕ) → length t ≤ i → length w ≤ i → fits (drop i t) (drop i w) ≡ true
fits_end t w i h k = rw (drop_end t i h, drop_end w i k)

-- ONE OF A LIST OF SHAPES

pub any_listed : (w : Word) (ts : List Word) → list_any (λ t. fits t w) ts ≡ any ts w
any_listed w [] = refl
any_listed w (t ∷ ts) = ap (λ (r : Bool). fits t w || r) (any_listed w ts) ∙ sym (either (fits t w) (any ts w))
