-- The place of a form from the places of its parts. Assumes nothing.
use Rattle.std.specs.Prelude.{ℕ, zero, suc, ◌+◌, ◌*◌, ◌-◌, Bool, false, ◌&&◌, cond, List, [], ◌∷◌, ◌++◌, leb, ltb, min, max, length, take, drop, get_or}
use Rattle.text.specs.Words.{Word, all, up_to, holds, before, behind, leading}
use Rattle.alphabet.specs.Alphabet.{digit}
use Rattle.shape.specs.Shape.{in_class, letters, fits}

-- the larger and the smaller of two places
abbrev pub larger : ℕ → ℕ → ℕ
larger p q = max p q

abbrev pub smaller : ℕ → ℕ → ℕ
smaller p q = min p q

-- ONE PART BEHIND ANOTHER, cut at the first byte that is not of a set: f before it, g from it on

abbrev pub in_front : (ℕ → Bool) → List ℕ → List ℕ
in_front p s = take (leading p s) s

abbrev pub from_there : (ℕ → Bool) → List ℕ → List ℕ
from_there p s = drop (leading p s) s

abbrev pub then_fits : (ℕ → Bool) → (f g : List ℕ → Bool) → List ℕ → Bool
then_fits p f g s = f (in_front p s) && g (from_there p s)

-- the place is in g's part where f's part fits and something stands behind it, and else in f's
abbrev pub then_place : (ℕ → Bool) → (List ℕ → Bool) → (pf pg : List ℕ → ℕ) → List ℕ → ℕ
then_place p f pf pg s =
    cond (ltb (leading p s) (length s) && f (in_front p s))
    (leading p s + pg (from_there p s))
    (pf (in_front p s))

-- the same cut at the first c, which belongs to neither part
abbrev pub cut_place : ℕ → (List ℕ → Bool) → (pf pg : List ℕ → ℕ) → List ℕ → ℕ
cut_place c f pf pg s = cond (holds c s && f (before c s)) (suc (up_to c s) + pg (behind c s)) (pf (before c s))

-- A FIRST BYTE, and what may follow it

abbrev pub first_fits : (ℕ → Bool) → (ℕ → List ℕ → Bool) → List ℕ → Bool
first_fits q f [] = false
first_fits q f (b ∷ s) = q b && f b s

abbrev pub first_place : (ℕ → Bool) → (ℕ → List ℕ → ℕ) → List ℕ → ℕ
first_place q pf [] = 0
first_place q pf (b ∷ s) = cond (q b) (suc (pf b s)) 0

-- nothing more: the place is where anything stands
abbrev pub no_more : List ℕ → ℕ
no_more s = 0

-- TWO DIGITS, the first from lo to hi

abbrev pub between : ℕ → ℕ → ℕ → Bool
between lo hi b = leb lo b && leb b hi

abbrev pub two_digits : ℕ → ℕ → Word → ℕ
two_digits lo hi w = first_place (between lo hi) (λ a. first_place digit (λ b. no_more)) w

-- SO MANY BYTES of a set, and what may follow them

abbrev pub fixed_fits : (ℕ → Bool) → ℕ → (List ℕ → Bool) → List ℕ → Bool
fixed_fits p zero g s = g s
fixed_fits p (suc n) g s = first_fits p (λ a. fixed_fits p n g) s

abbrev pub fixed_place : (ℕ → Bool) → ℕ → (List ℕ → ℕ) → List ℕ → ℕ
fixed_place p n pg s = cond (leb n (leading p s)) (n + pg (drop n s)) (leading p s)

-- A TIME, for a greatest hour: the hours' first digit, both, the minutes' first digit, and the last

abbrev pub tens : ℕ → ℕ → Bool
tens most a = digit a && leb ((a - 48) * 10) most

abbrev pub units : ℕ → ℕ → ℕ → Bool
units most a b = digit b && leb ((a - 48) * 10 + (b - 48)) most

abbrev pub sixty : ℕ → Bool
sixty c = between 48 53 c

abbrev pub minutes_place : Word → ℕ
minutes_place w = two_digits 48 53 w

unfoldable pub time_place : ℕ → Word → ℕ
time_place most w = first_place (tens most) (λ a. first_place (units most a) (λ b. minutes_place)) w

-- A RUN of bytes of a set, so many at least and at most

abbrev pub run_fits : ℕ → ℕ → (ℕ → Bool) → List ℕ → Bool
run_fits least most p w = leb least (length w) && (leb (length w) most && all p w)

abbrev pub run_place : ℕ → (ℕ → Bool) → List ℕ → ℕ
run_place most p w = smaller most (leading p w)

-- FOLLOWING: how far the bytes of w go along with those of t, by a test of what stands where t has a byte

abbrev pub along_by : (ℕ → ℕ → Bool) → Word → Word → ℕ
along_by m [] w = 0
along_by m (t ∷ ts) [] = 0
along_by m (t ∷ ts) (b ∷ w) = cond (m t b) (suc (along_by m ts w)) 0

-- the largest of what f gives to the words of a list
abbrev pub largest : (Word → ℕ) → List Word → ℕ
largest f [] = 0
largest f (v ∷ vs) = larger (f v) (largest f vs)

-- A SHAPE, AND A LIST OF SHAPES: how far the bytes follow the shape, and how far they follow the one that they follow farthest

abbrev pub along : Word → Word → ℕ
along t w = along_by in_class t w

abbrev pub farthest : List Word → Word → ℕ
farthest ts w = largest (λ t. along t w) ts

-- PREFIXES, by a test that says which of them can be completed: how many more bytes pass it, the ones before being p

abbrev pub passes : (List ℕ → Bool) → List ℕ → List ℕ → ℕ
passes v p [] = 0
passes v p (b ∷ s) = cond (v (p ++ (b ∷ []))) (suc (passes v (p ++ (b ∷ [])) s)) 0

-- a word of each shape
abbrev pub sample : Word → Word
sample [] = []
sample (t ∷ ts) = cond (digit t) 48 (get_or (letters t) 0 0) ∷ sample ts

-- every shape of a list has a word
abbrev pub sampled : List Word → Bool
sampled ts = all (λ t. fits t (sample t)) ts
