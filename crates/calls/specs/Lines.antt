-- The lines of the program `handlers` as calls. Assumes nothing.
use Rattle.std.specs.Prelude.{ℕ, ◌-◌, ◌≡◌, refl, Bool, ◌&&◌, not, cond, List, [], Option, Some, None, eqb, ltb, length, get_or}
use Rattle.std.specs.Option.{option_and_then}
use Rattle.alphabet.specs.Text.{bytes}
use Rattle.alphabet.specs.Alphabet.{digit}
use Rattle.text.specs.Words.{Word, before, behind, holds, all, same}
use Rattle.calls.specs.declared.Call.TheVariants.{File, Update, Clear}
use Rattle.calls.specs.declared.Ask.{Ask}
use Rattle.calls.specs.declared.Ask.TheVariants.{Calls, Look, List as Lists}

-- A NUMBER is one digit or more. Firms are 1 and 2 and slots 0 to 9, so a number of more digits is neither: it counts as 10
abbrev pub is_number : Word → Bool
is_number w = not (ltb (length w) 1) && all digit w

abbrev pub number_in : Word → Option ℕ
number_in w = cond (is_number w) (Some (cond (eqb (length w) 1) (get_or w 0 0 - 48) 10)) None

-- A LINE: firm, FILE, message; firm, UPDATE, slot, message; firm, CLEAR, slot; firm, LOOK, slot; firm, LIST. One space stands between; what is not so
-- is no call. A message is the line from a place on: where what is left of it begins

-- what stands behind the first space
abbrev pub rest_of : List ℕ → Option (List ℕ)
rest_of s = cond (holds 32 s) (Some (behind 32 s)) None

-- from the slot on, by what stands behind it; `long` is the length of the whole line
abbrev pub place_as : ℕ → ℕ → ℕ → Word → Option (List ℕ) → Option Ask
place_as firm slot long verb (Some message) = cond (same verb (bytes "UPDATE")) (Some (Calls (Update firm slot (long - length message)))) None
place_as firm slot long verb None =
    cond (same verb (bytes "CLEAR")) (Some (Calls (Clear firm slot))) (cond (same verb (bytes "LOOK")) (Some (Look firm slot)) None)

abbrev pub slot_as : ℕ → ℕ → Word → List ℕ → Option Ask
slot_as firm long verb s = option_and_then (λ slot. place_as firm slot long verb (rest_of s)) (number_in (before 32 s))

-- from behind the firm on, by what stands behind the verb
abbrev pub verb_as : ℕ → ℕ → Word → Option (List ℕ) → Option Ask
verb_as firm long verb (Some s) =
    cond (same verb (bytes "FILE")) (Some (Calls (File firm (long - length s)))) (slot_as firm long verb s)
verb_as firm long verb None = cond (same verb (bytes "LIST")) (Some (Lists firm)) None

-- what a line asks for, if anything
abbrev pub asked : List ℕ → Option Ask
asked line =
    option_and_then (λ firm. option_and_then (λ s. verb_as firm (length line) (before 32 s) (rest_of s)) (rest_of line)) (number_in (before 32 line))

-- EXAMPLES, computed

as_calls : (asked (bytes "1 FILE (FPL-A B)") ≡ Some (Calls (File 1 7))) × (asked (bytes "2 UPDATE 3 (CHG)") ≡ Some (Calls (Update 2 3 11)))
    × (asked (bytes "1 CLEAR 0") ≡ Some (Calls (Clear 1 0))) × (asked (bytes "2 LOOK 9") ≡ Some (Look 2 9)) × (asked (bytes "1 LIST") ≡ Some (Lists 1))
as_calls = (refl, refl, refl, refl, refl)

-- numbers that are no firm and no slot; a message that is empty
strangers : (asked (bytes "3 LIST") ≡ Some (Lists 3)) × (asked (bytes "01 LIST") ≡ Some (Lists 10)) × (asked (bytes "1 CLEAR 10") ≡ Some (Calls (Clear 1 10)))
    × (asked (bytes "1 FILE ") ≡ Some (Calls (File 1 7)))
strangers = (refl, refl, refl, refl)

-- no calls: nothing; no number; two spaces; more than the call; less than the call; another word
no_calls : (asked [] ≡ None) × (asked (bytes "X LIST") ≡ None) × (asked (bytes "1  LIST") ≡ None) × (asked (bytes "1 LIST 2") ≡ None)
    × (asked (bytes "1 CLEAR 0 ") ≡ None) × (asked (bytes "1 FILE") ≡ None) × (asked (bytes "1 UPDATE 0") ≡ None)
    × (asked (bytes "1 CLEAR X") ≡ None) × (asked (bytes "1 list") ≡ None)
no_calls = (refl, refl, refl, refl, refl, refl, refl, refl, refl)
