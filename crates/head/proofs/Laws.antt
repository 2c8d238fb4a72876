-- What ties the definitions to the code: numbers, counts and contents by their length, and a run cut from what follows it. Assumes nothing.
use Prim.Native.Nat.{ℕ, suc, ◌+◌, ◌<◌, ◌≤◌}
use mathlib.Core.Path.{◌≡◌, refl, ap}
use mathlib.Core.Bool.{Bool, true, false, cond, ◌&&◌, not, beq, and-true}
use mathlib.Core.List.{List, [], ◌∷◌, ◌++◌}
use native.Mathlib.Omega.{arith}
use lib.Dec.{leb}
use lib.ListN.{length, take, drop, get_or, drop_of_length-le, length-take, length-drop}
use lib.Seq.{take_all}
use borrow.Author.Tests.{not-true, leb-true, lt-leb}
use Rattle.alphabet.specs.Alphabet.{letter, digit}
use Rattle.text.specs.Words.{Word, all, null, elem}
use Rattle.text.proofs.Tests.{both, some_length, of_elem, elem-length}
use Rattle.head.specs.Runs.{lead}
use Rattle.head.specs.Field3.{types, first, others, number_fits, numbers_fit, fits3}
use Rattle.head.specs.Field8.{rules_fit, flight_fits, fits8}
use Rattle.head.specs.Field9.{count_fits}

-- NUMBERS, by where the first one ends

pub numbers_none : (w : Word) → length w ≡ 0 → numbers_fit w ≡ true
unfolding numbers_fit
numbers_none [] h = refl
numbers_none (b ∷ w) h = absurd (omega arith)

pub numbers_one : (w : Word) → (length w ≡ 0 → ⊥) → length w ≤ lead false w + 3 → numbers_fit w ≡ number_fits w
unfolding numbers_fit
numbers_one [] h l = absurd (h refl)
numbers_one (b ∷ w) h l =
    rw (take_all (lead false (b ∷ w) + 3) (b ∷ w) l, drop_of_length-le (b ∷ w) l) (and-true (number_fits (b ∷ w)))

pub numbers_two : (w : Word) → lead false w + 3 < length w → numbers_fit w ≡ (number_fits (first w) && number_fits (others w))
unfolding numbers_fit
numbers_two w h =
    let z : 0 < length (others w) = simp length-drop (omega arith) in
    rw (not-true (null w) (some_length w (omega arith)), not-true (null (others w)) (some_length (others w) z))

-- COUNTS AND RULES, by their length

pub count_none : (w : Word) → length w ≡ 0 → count_fits w ≡ true
unfolding count_fits
count_none [] h = refl
count_none (a ∷ w) h = absurd (omega arith)

pub count_one : (w : Word) → length w ≡ 1 → count_fits w ≡ leb 50 (get_or w 0 0)
unfolding count_fits
count_one [] h = absurd (omega arith)
count_one (a ∷ []) h = refl
count_one (a ∷ (b ∷ w)) h = absurd (omega arith)

pub count_two : (w : Word) → length w ≡ 2 → count_fits w ≡ leb 49 (get_or w 0 0)
unfolding count_fits
count_two [] h = absurd (omega arith)
count_two (a ∷ []) h = absurd (omega arith)
count_two (a ∷ (b ∷ [])) h = refl
count_two (a ∷ (b ∷ (c ∷ w))) h = absurd (omega arith)

pub count_more : (w : Word) → 3 ≤ length w → count_fits w ≡ false
unfolding count_fits
count_more [] h = absurd (omega arith)
count_more (a ∷ []) h = absurd (omega arith)
count_more (a ∷ (b ∷ [])) h = absurd (omega arith)
count_more (a ∷ (b ∷ (c ∷ w))) h = refl

pub rules_one : (s : List ℕ) → length s ≡ 1 → fits8 s ≡ rules_fit (get_or s 0 0)
unfolding fits8
rules_one [] h = absurd (omega arith)
rules_one (a ∷ []) h = refl
rules_one (a ∷ (b ∷ s)) h = absurd (omega arith)

pub rules_two : (s : List ℕ) → length s ≡ 2 → fits8 s ≡ (rules_fit (get_or s 0 0) && flight_fits (get_or s 1 0))
unfolding fits8
rules_two [] h = absurd (omega arith)
rules_two (a ∷ []) h = absurd (omega arith)
rules_two (a ∷ (b ∷ [])) h = refl
rules_two (a ∷ (b ∷ (c ∷ s))) h = absurd (omega arith)

pub rules_other : (s : List ℕ) → (length s ≡ 1 → ⊥) → (length s ≡ 2 → ⊥) → fits8 s ≡ false
unfolding fits8
rules_other [] h k = refl
rules_other (a ∷ []) h k = absurd (h refl)
rules_other (a ∷ (b ∷ [])) h k = absurd (k refl)
rules_other (a ∷ (b ∷ (c ∷ s))) h k = refl

-- A TYPE has three letters
pub three_letters : (w : Word) → elem w types ≡ true → length w ≡ 3
unfolding types
three_letters w e = elem-length 3 types refl w e

pub type_letters : (w : Word) → elem w types ≡ true → all letter w ≡ true
unfolding types
type_letters w e = of_elem (all letter) types refl w e

pub no_type : (w : Word) → length w < 3 → elem w types ≡ false
no_type w h = go (elem w types) refl
  where
    go : (b : Bool) → elem w types ≡ b → b ≡ false
    go true e = absurd (omega (arith, three_letters w e))
    go false e = refl

pub no_type_content : (s : List ℕ) → length s < 3 → fits3 s ≡ false
unfolding fits3
no_type_content s h = rw (no_type (take 3 s) (simp length-take (omega arith)))

-- a content, by its type
pub type_not : (s : List ℕ) → elem (take 3 s) types ≡ false → fits3 s ≡ false
unfolding fits3
type_not s e = rw e

pub type_is : (s : List ℕ) → elem (take 3 s) types ≡ true → fits3 s ≡ numbers_fit (drop 3 s)
unfolding fits3
type_is s e = rw e

-- A RUN, cut from what follows it

-- bytes of the run
abbrev pub within : Bool → Word → Bool
within d k = all (λ b. beq (digit b) d) k

-- a content whose first byte is not of the run
abbrev pub ends : Bool → List ℕ → Bool
ends d [] = true
ends d (b ∷ s) = not (beq (digit b) d)

pub lead_within : (d : Bool) (s : List ℕ) → within d (take (lead d s) s) ≡ true
lead_within d [] = refl
lead_within d (b ∷ s) = go (lead_within d s) (beq (digit b) d) refl
  where
    go : within d (take (lead d s) s) ≡ true → (t : Bool) → beq (digit b) d ≡ t → within d (take (cond t (suc (lead d s)) 0) (b ∷ s)) ≡ true
    go ih true e = rw e ih
    go ih false e = refl

pub lead_seam : (d : Bool) (k f : Word) → within d k ≡ true → ends d f ≡ true → lead d (k ++ f) ≡ length k
lead_seam d [] [] e g = refl
lead_seam d [] (b ∷ f) e g = rw (not-true (beq (digit b) d) g)
lead_seam d (b ∷ k) f e g =
    let h = both (beq (digit b) d) (within d k) e in
    rw h.0 (ap suc (lead_seam d k f h.1 g))

-- a letter is no digit
pub letter_no_digit : (b : ℕ) → letter b ≡ true → not (beq (digit b) true) ≡ true
letter_no_digit b e =
    let h = both (leb 65 b) (leb b 90) e in
    let l = leb-true 65 b h.0 in
    rw (lt-leb b 57 (omega arith)) (go (leb 48 b))
  where
    go : (t : Bool) → not (beq (t && false) true) ≡ true
    go true = refl
    go false = refl
