-- A shape's numbers and its spelling determine one another, for every shape. Assumes nothing.
use Prim.Native.Nat.{ℕ, zero, suc, ◌-◌, ◌^◌, ◌<◌}
use mathlib.Core.Path.{◌≡◌, refl, sym, ap, ◌∙◌}
use mathlib.Core.Bool.{Bool, true, false, cond, ◌&&◌, ◌||◌, not, false≢true}
use mathlib.Core.List.{List, [], ◌∷◌, ◌++◌}
use lib.Dec.{ltb}
use lib.ListN.{length, take, drop, take-append-drop}
use lib.Seq.{take_at, drop_at}
use borrow.Author.Tests.{not-true, ltb-true, lt-ltb}
use Rattle.alphabet.specs.Alphabet.{digit, one_of}
use Rattle.text.specs.Words.{Word, all}
use Rattle.text.proofs.Tests.{both, of_one, and_false}
use Rattle.shape.specs.Numbers.{digits, value}
use Rattle.shape.specs.Shape.{letters, in_class, fits, copies, wide, values, spells, sized}
use Rattle.shape.proofs.Numbers.{value_below, digits_value, digits_length, value_digits, digits_digits}

-- A SHAPE'S NUMBERS

-- a run of digits in front of a shape
copies_cut : (k : ℕ) (s w : Word) → fits (copies k ++ s) w ≡ true → (all digit (take k w) ≡ true) × (length (take k w) ≡ k) × (fits s (drop k w) ≡ true)
copies_cut zero s w e = (refl, refl, e)
copies_cut (suc k) s [] e = absurd (false≢true e)
copies_cut (suc k) s (b ∷ w) e =
    let h = both (digit b) (fits (copies k ++ s) w) e in
    let i = copies_cut k s w h.1 in
    (rw h.0 i.0, ap suc i.1, i.2)

copies_join : (u s w : Word) → all digit u ≡ true → fits s w ≡ true → fits (copies (length u) ++ s) (u ++ w) ≡ true
copies_join [] s w e f = f
copies_join (b ∷ u) s w e f = let h = both (digit b) (all digit u) e in rw h.0 (copies_join u s w h.1 f)

pub spells_values : (ts w : Word) → fits (wide ts) w ≡ true → spells ts (values ts w) ≡ w
spells_values [] [] e = refl
spells_values [] (b ∷ w) e = absurd (false≢true e)
spells_values (t ∷ ts) w e = go (spells_values ts) (digit t) refl w e
  where
    go : ((v : Word) → fits (wide ts) v ≡ true → spells ts (values ts v) ≡ v)
        → (b : Bool) → digit t ≡ b → (w : Word) → fits (cond b (copies (t - 48)) (t ∷ []) ++ wide ts) w ≡ true → spells (t ∷ ts) (values (t ∷ ts) w) ≡ w
    go ih true d w f =
        let h = copies_cut (t - 48) (wide ts) w f in
        let n : digits (t - 48) (value (take (t - 48) w)) ≡ take (t - 48) w
        = ap (λ (k : ℕ). digits k (value (take (t - 48) w))) (sym h.1) ∙ digits_value (take (t - 48) w) h.0 in
        rw (d, n, ih (drop (t - 48) w) h.2, d) (take-append-drop (t - 48) w)
    go ih false d [] f = absurd (false≢true f)
    go ih false d (x ∷ w) f = rw (d, ih w (both (in_class t x) (fits (wide ts) w) f).1, d)

pub values_spells : (ts : Word) (vs : List ℕ) → sized ts vs ≡ true → (fits (wide ts) (spells ts vs) ≡ true) × (values ts (spells ts vs) ≡ vs)
values_spells [] [] e = (refl, refl)
values_spells [] (v ∷ vs) e = absurd (false≢true e)
values_spells (t ∷ ts) [] e = absurd (false≢true e)
values_spells (t ∷ ts) (v ∷ vs) e = go (values_spells ts vs) (digit t) refl e
  where
    go : (sized ts vs ≡ true → (fits (wide ts) (spells ts vs) ≡ true) × (values ts (spells ts vs) ≡ vs))
        → (b : Bool) → digit t ≡ b → (cond b (ltb v (10 ^ (t - 48))) (one_of v (letters t)) && sized ts vs) ≡ true
        → (fits (wide (t ∷ ts)) (spells (t ∷ ts) (v ∷ vs)) ≡ true) × (values (t ∷ ts) (spells (t ∷ ts) (v ∷ vs)) ≡ v ∷ vs)
    go ih true d f =
        let h = both (ltb v (10 ^ (t - 48))) (sized ts vs) f in
        let i = ih h.1 in
        let l : v < 10 ^ (t - 48) = ltb-true v (10 ^ (t - 48)) h.0 in
        let n = digits_length (t - 48) v in
        let u = digits (t - 48) v in (
          rw d (rw n at (copies_join u (wide ts) (spells ts vs) (digits_digits (t - 48) v l) i.0)),
          rw (d, take_at u (spells ts vs) (t - 48) n, drop_at u (spells ts vs) (t - 48) n, value_digits (t - 48) v l, i.1),
        )
    go ih false d f =
        let h = both (one_of v (letters t)) (sized ts vs) f in
        let i = ih h.1 in
        (rw (d, h.0, d) i.0, rw (d, i.1))

-- NO WORD FITS TWO SHAPES: a test that antt computes

abbrev pub disjoint : ℕ → ℕ → Bool
disjoint t u = cond (digit t) (cond (digit u) false (all (λ b. not (digit b)) (letters u))) (all (λ b. not (in_class u b)) (letters t))

abbrev pub clash : Word → Word → Bool
clash [] [] = false
clash [] (u ∷ us) = true
clash (t ∷ ts) [] = true
clash (t ∷ ts) (u ∷ us) = cond (disjoint t u) true (clash ts us)

disjoint_law : (t u b : ℕ) → disjoint t u ≡ true → in_class t b ≡ true → in_class u b ≡ false
disjoint_law t u b a e = go (digit t) refl (digit u) refl a e
  where
    never : (c : Bool) → one_of b (letters u) ≡ c → digit b ≡ true → all (λ b. not (digit b)) (letters u) ≡ true → c ≡ false
    never true p q r = absurd (false≢true (ap not (sym q) ∙ of_one (λ b. not (digit b)) (letters u) r b p))
    never false p q r = refl

    go : (c : Bool) → digit t ≡ c → (d : Bool) → digit u ≡ d
        → cond c (cond d false (all (λ b. not (digit b)) (letters u))) (all (λ b. not (in_class u b)) (letters t)) ≡ true
        → cond c (digit b) (one_of b (letters t)) ≡ true → in_class u b ≡ false
    go true p true q r s = absurd (false≢true r)
    go true p false q r s = rw q (never (one_of b (letters u)) refl s r)
    go false p d q r s = not-true (in_class u b) (of_one (λ b. not (in_class u b)) (letters t) r b s)

pub clash_law : (t u w : Word) → clash t u ≡ true → fits t w ≡ true → fits u w ≡ false
clash_law [] [] w c e = absurd (false≢true c)
clash_law [] (u ∷ us) [] c e = refl
clash_law [] (u ∷ us) (b ∷ w) c e = absurd (false≢true e)
clash_law (t ∷ ts) [] [] c e = absurd (false≢true e)
clash_law (t ∷ ts) [] (b ∷ w) c e = refl
clash_law (t ∷ ts) (u ∷ us) [] c e = refl
clash_law (t ∷ ts) (u ∷ us) (b ∷ w) c e = go (clash_law ts us w) (disjoint t u) refl c
  where
    h : (in_class t b ≡ true) × (fits ts w ≡ true)
    h = both (in_class t b) (fits ts w) e

    go : (clash ts us ≡ true → fits ts w ≡ true → fits us w ≡ false)
        → (d : Bool) → disjoint t u ≡ d → cond d true (clash ts us) ≡ true → (in_class u b && fits us w) ≡ false
    go ih true p q = rw (disjoint_law t u b p h.0)
    go ih false p q = and_false (in_class u b) (fits us w) (ih q h.1)

-- a test that all digits pass, and all letters of a shape, is passed by every byte of a word that fits it
pub fits_all : (p : ℕ → Bool) → ((b : ℕ) → digit b ≡ true → p b ≡ true)
    → (t w : Word) → all (λ x. digit x || all p (letters x)) t ≡ true → fits t w ≡ true → all p w ≡ true
fits_all p d [] [] a e = refl
fits_all p d [] (b ∷ w) a e = absurd (false≢true e)
fits_all p d (t ∷ ts) [] a e = refl
fits_all p d (t ∷ ts) (b ∷ w) a e = rw (go (digit t) g.0 h.0) (fits_all p d ts w g.1 h.1)
  where
    g : ((digit t || all p (letters t)) ≡ true) × (all (λ x. digit x || all p (letters x)) ts ≡ true)
    g = both (digit t || all p (letters t)) (all (λ x. digit x || all p (letters x)) ts) a

    h : (in_class t b ≡ true) × (fits ts w ≡ true)
    h = both (in_class t b) (fits ts w) e

    go : (x : Bool) → (x || all p (letters t)) ≡ true → cond x (digit b) (one_of b (letters t)) ≡ true → p b ≡ true
    go true q r = d b r
    go false q r = of_one p (letters t) q b r

pub fits_drop : (k : ℕ) (t w : Word) → fits t w ≡ true → fits (drop k t) (drop k w) ≡ true
fits_drop zero t w e = e
fits_drop (suc k) [] [] e = refl
fits_drop (suc k) [] (b ∷ w) e = absurd (false≢true e)
fits_drop (suc k) (t ∷ ts) [] e = absurd (false≢true e)
fits_drop (suc k) (t ∷ ts) (b ∷ w) e = fits_drop k ts w (both (in_class t b) (fits ts w) e).1

-- what is read is valid

pub sized_values : (ts w : Word) → fits (wide ts) w ≡ true → sized ts (values ts w) ≡ true
sized_values [] w e = refl
sized_values (t ∷ ts) w e = go (sized_values ts) (digit t) refl w e
  where
    go : ((v : Word) → fits (wide ts) v ≡ true → sized ts (values ts v) ≡ true)
        → (b : Bool) → digit t ≡ b → (w : Word) → fits (cond b (copies (t - 48)) (t ∷ []) ++ wide ts) w ≡ true → sized (t ∷ ts) (values (t ∷ ts) w) ≡ true
    go ih true d w f =
        let h = copies_cut (t - 48) (wide ts) w f in
        let n : ltb (value (take (t - 48) w)) (10 ^ (t - 48)) ≡ true
        = lt-ltb (value (take (t - 48) w)) (10 ^ (t - 48)) (rw h.1 at (value_below (take (t - 48) w) h.0)) in
        rw (d, n, d) (ih (drop (t - 48) w) h.2)
    go ih false d [] f = absurd (false≢true f)
    go ih false d (x ∷ w) f =
        let h = both (in_class t x) (fits (wide ts) w) f in
        let l : one_of x (letters t) ≡ true = rw d at h.0 in
        rw (d, l, d) (ih w h.1)
