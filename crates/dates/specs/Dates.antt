-- The date in field 18 (document 02, request 5): the word under DOF, and what a content becomes that takes a date. Assumes nothing.
use Rattle.std.specs.Prelude.{ℕ, ◌+◌, ◌≤◌, ◌≡◌, refl, cond, List, [], ◌∷◌, ◌++◌, length, take, drop, Option, Some, None}
use Rattle.std.specs.Bool.{then_some}
use Rattle.alphabet.specs.Text.{bytes}
use Rattle.text.specs.Words.{Word, split, join, holds, before, same, elem}
use Rattle.text.specs.Lent.{front}
use Rattle.shape.specs.Shape.{letters}
use Rattle.other.specs.Rules.{base, rank_in, year, month, day_of, days_in, date}
use Rattle.other.specs.Field18.{words_under}
use Rattle.dates.specs.declared.Date.{Date}
use Rattle.dates.specs.declared.Place.{Place}
use Rattle.dates.specs.declared.Place.TheVariants.{Instead, Before, Last}

abbrev pub dof : Word
dof = bytes "DOF"

-- THE DATE OF A CONTENT: the word under DOF, empty where there is none

abbrev pub date_in : List ℕ → Word
date_in s = words_under s dof

-- the day that a word is, if it is a real date
abbrev pub flight_date : Word → Option Date
flight_date w = then_some (date w) (record { year = 2000 + year w; month = month w; day = day_of w })

-- A CONTENT THAT TAKES A DATE: the date replaces the content's, or is put in its place in the key order, and `0` gives way to it

-- the item of a date
abbrev pub dated : Word → Word
dated d = dof ++ (47 ∷ d)

-- the key of a word that begins an item; none of any other
abbrev pub key_in : Word → Word
key_in w = cond (holds 47 w) (before 47 w) []

-- the keys behind DOF
unfoldable pub keys_behind : List Word
keys_behind = drop (rank_in base dof) base.keys

-- among words, an item x of DOF: instead of DOF's, otherwise before the first item of a key behind DOF, otherwise last
abbrev pub placed_at : Word → Word → List Word → List Word → List Word
placed_at x w ws rest = cond (same (key_in w) dof) (x ∷ ws) (cond (elem (key_in w) keys_behind) (x ∷ (w ∷ ws)) (w ∷ rest))

abbrev pub placed : Word → List Word → List Word
placed x [] = x ∷ []
placed x (w ∷ ws) = placed_at x w ws (placed x ws)

unfoldable pub with_date : Word → List ℕ → List ℕ
with_date d s = cond (same s (bytes "0")) (dated d) (join 32 (placed (dated d) (split 32 s)))

-- WHERE AN ITEM GOES in a content: instead of some bytes, before a byte, or behind the last; a space keeps it from its neighbours

abbrev pub put_at : Word → List ℕ → Place → List ℕ
put_at x s (Instead from to) = take from s ++ (x ++ drop to s)
put_at x s (Before at) = take at s ++ (x ++ (32 ∷ drop at s))
put_at x s Last = s ++ (32 ∷ x)

abbrev pub Inside : List ℕ → Place → Type 0
Inside s (Instead from to) = (from ≤ length s) × (to ≤ length s)
Inside s (Before at) = at ≤ length s
Inside s Last = Unit

-- the place of every date
pub record DatePlace (s : List ℕ) (p : Place) : Type 0 where
  pub inside : Inside s p
  pub every : (d : Word) → put_at (dated d) s p ≡ with_date d s

-- WHAT A WRITER GIVES: so many bytes, at the front of what was lent
abbrev pub Puts : List ℕ → ℕ → List ℕ → List ℕ → Type 0
Puts w n before after = (n ≡ length w) × (after ≡ front w before)

-- EXAMPLES, computed

of_contents : (date_in (bytes "STS/HOSP DOF/240229 RMK/A B") ≡ bytes "240229") × (date_in (bytes "RMK/DOF") ≡ []) × (date_in (bytes "0") ≡ [])
unfolding words_under
of_contents = (refl, refl, refl)

days : (flight_date (bytes "240229") ≡ Some (record { year = 2024; month = 2; day = 29 })) × (flight_date (bytes "230229") ≡ None) × (flight_date [] ≡ None)
unfolding date days_in letters
days = (refl, refl, refl)

abbrev late : List ℕ → List ℕ
late s = with_date (bytes "240229") s

nothing_there : late (bytes "0") ≡ bytes "DOF/240229"
unfolding with_date
nothing_there = refl

replaced : (late (bytes "DOF/240228 RMK/A") ≡ bytes "DOF/240229 RMK/A") × (late (bytes "STS/HOSP DOF/240228") ≡ bytes "STS/HOSP DOF/240229")
    × (late (bytes "DEP/X DOF/240228 REG/Y Z") ≡ bytes "DEP/X DOF/240229 REG/Y Z")
unfolding with_date keys_behind base
replaced = (refl, refl, refl)

-- words of a remark stay, also one that spells a key
put_in_lem : (late (bytes "DEP/X REG/Y") ≡ bytes "DEP/X DOF/240229 REG/Y") × (late (bytes "STS/HOSP") ≡ bytes "STS/HOSP DOF/240229")
    × (late (bytes "RMK/A B") ≡ bytes "DOF/240229 RMK/A B") × (late (bytes "DEP/A DOF REG B RMK/C D E") ≡ bytes "DEP/A DOF REG B DOF/240229 RMK/C D E")
unfolding with_date keys_behind base
put_in_lem = (refl, refl, refl, refl)

at_places : (put_at (bytes "X") (bytes "A B C") (Instead 2 3) ≡ bytes "A X C") × (put_at (bytes "X") (bytes "A B C") (Before 2) ≡ bytes "A X B C")
    × (put_at (bytes "X") (bytes "A B C") Last ≡ bytes "A B C X")
at_places = (refl, refl, refl)
