-- The place of a content of field 19 that does not fit (document 02, request 4), word by word as `Walk` goes: a word is a further one of the
-- item that was read last, or it begins a later item. Assumes nothing.
use Rattle.std.specs.Prelude.{ℕ, ◌≡◌, refl, Bool, true, false, cond, List, [], ltb, eqb}
use Prim.Native.String.{String}
use Rattle.std.specs.Prelude.{Option, None, Some}
use Rattle.alphabet.specs.Text.{bytes}
use Rattle.alphabet.specs.Alphabet.{letter, digit, text, in_alphabet, white}
use Rattle.text.specs.Words.{Word, split, leading}
use Rattle.shape.specs.Time.{time_fits, elapsed_hours}
use Rattle.places.specs.Parts.{larger, first_place, run_place, time_place, passes}
use Rattle.places.specs.Words.{Words, words_place}
use Rattle.supplement.specs.Field19.{Key, E, P, R, S, J, D, A, N, C, Other, keyed, by_letter, place, letters_fit}
use Rattle.supplement.specs.Field19.{persons_digits, number_digits, capacity_digits, radio_letters, survival_letters, light_letters, jacket_radio_letters}
use Rattle.supplement.specs.declared.Stage.{Stage}
use Rattle.supplement.specs.declared.Stage.TheVariants.{Start, Endurance, Persons, Radio, Survival, Lights, JacketRadio, Number, Capacity, Colours}
use Rattle.supplement.specs.declared.Stage.TheVariants.{Aircraft, Remarks, Pilot, Refused}
use Rattle.supplement.specs.Walk.{past, complete, step}

-- THE PLACE IN A WORD

-- letters of a set, none twice
abbrev pub letters_place : List ℕ → Word → ℕ
letters_place set w = passes (letters_fit set) [] w

-- the first word of an item, behind its oblique; under D the number of a pair, or else letters: the cover is one too
abbrev pub first_word_place : Key → Word → ℕ
first_word_place E w = time_place elapsed_hours w
first_word_place P w = run_place persons_digits digit w
first_word_place R w = letters_place radio_letters w
first_word_place S w = letters_place survival_letters w
first_word_place J w = letters_place light_letters w
first_word_place D w = larger (run_place number_digits digit w) (leading letter w)
first_word_place A w = leading text w
first_word_place N w = leading text w
first_word_place C w = leading text w
first_word_place Other w = 0

-- a further word of an item
abbrev pub further_place : Stage → Word → ℕ
further_place Start w = 0
further_place Endurance w = 0
further_place Persons w = 0
further_place Radio w = 0
further_place Survival w = 0
further_place Lights w = letters_place jacket_radio_letters w
further_place JacketRadio w = 0
further_place Number w = run_place capacity_digits digit w
further_place Capacity w = leading letter w
further_place Colours w = leading letter w
further_place Aircraft w = leading text w
further_place Remarks w = leading text w
further_place Pilot w = leading text w
further_place Refused w = 0

-- a word that begins an item: the letter of a key that may come next, an oblique, and the item's first word

abbrev pub comes : Stage → ℕ → Bool
comes stage b = ltb (past stage) (place (by_letter b))

abbrev pub oblique : ℕ → Bool
oblique b = eqb b 47

abbrev pub item_place : Stage → Word → ℕ
item_place stage w = first_place (comes stage) (λ b. first_place oblique (λ o. first_word_place (by_letter b))) w

abbrev pub word_place : Stage → Word → ℕ
word_place stage w = larger (further_place stage w) (item_place stage w)

-- THE WORDS

-- the words so far may stand there
abbrev pub stands : Stage → Bool
stands Start = true
stands Endurance = true
stands Persons = true
stands Radio = true
stands Survival = true
stands Lights = true
stands JacketRadio = true
stands Number = true
stands Capacity = true
stands Colours = true
stands Aircraft = true
stands Remarks = true
stands Pilot = true
stands Refused = false

abbrev pub reached : Stage → Option Stage
reached stage = cond (stands stage) (Some stage) None

-- behind any words that may stand there, a further word may: another item, the capacity that is due, or text
abbrev pub walk : Words
walk = record { K = Stage; after = λ stage w. reached (step stage w); final = complete; goes = stands }

unfoldable pub place19 : List ℕ → ℕ
place19 s = words_place walk word_place Start (split 32 s)

-- EXAMPLES, computed

abbrev at : String → ℕ
at s = place19 (bytes s)

-- no item, another letter, no oblique, no word behind it
begun : (at "" ≡ 0) × (at " E/0100" ≡ 0) × (at "X/1" ≡ 0) × (at "SMITH C/SMITH" ≡ 1) × (at "E" ≡ 1) × (at "E0100" ≡ 1) × (at "EP/1" ≡ 1) × (at "P/" ≡ 2)
    × (at "P/ R/V" ≡ 2)
unfolding place19 step keyed time_fits time_place text in_alphabet white
begun = (refl, refl, refl, refl, refl, refl, refl, refl, refl)

-- a key twice, keys in another order, a word more
ordered : (at "E/0100 E/0100" ≡ 7) × (at "P/6 E/0100" ≡ 4) × (at "S/M R/V" ≡ 4) × (at "P/6 7" ≡ 4) × (at "R/V E" ≡ 4) × (at "C/SMITH C/X" ≡ 9)
    × (at "N/X A/X" ≡ 5)
unfolding place19 step keyed time_fits time_place text in_alphabet white
ordered = (refl, refl, refl, refl, refl, refl, refl)

-- hours, minutes, four digits
endurance_placed : (at "E/2460" ≡ 4) × (at "E/0760" ≡ 4) × (at "E/075" ≡ 5) × (at "E/07451" ≡ 6) × (at "E/07:45" ≡ 4)
unfolding place19 step keyed time_fits time_place text in_alphabet white
endurance_placed = (refl, refl, refl, refl, refl)

counted : (at "P/1234" ≡ 5) × (at "P/1A" ≡ 3) × (at "P/TBN" ≡ 2)
unfolding place19 step keyed time_fits time_place text in_alphabet white
counted = (refl, refl, refl)

-- letters: of the set, none twice
lettered : (at "R/UU" ≡ 3) × (at "R/EVUE" ≡ 5) × (at "R/VX" ≡ 3) × (at "S/PDMJP" ≡ 6) × (at "J/LL" ≡ 3) × (at "J/L UU" ≡ 5) × (at "J/L L" ≡ 4)
    × (at "J/L UV U" ≡ 7)
unfolding place19 step keyed time_fits time_place text in_alphabet white
lettered = (refl, refl, refl, refl, refl, refl, refl, refl)

-- the capacity is due behind the number; three digits; a colour has two letters; the cover comes once, before the colours
dinghied : (at "D/2" ≡ 3) × (at "D/2 C" ≡ 4) × (at "D/2 A/X" ≡ 4) × (at "D/123 4" ≡ 4) × (at "D/1 1234" ≡ 7) × (at "D/2 8 C C RED" ≡ 9) × (at "D/RED 2" ≡ 6)
    × (at "D/Y RED" ≡ 3) × (at "D/RED9" ≡ 5) × (at "D/2RED" ≡ 3)
unfolding place19 step keyed time_fits time_place text in_alphabet white
dinghied = (refl, refl, refl, refl, refl, refl, refl, refl, refl, refl)

-- text words: no oblique but a later key's, none empty
texted : (at "A/RED TAIL/X" ≡ 10) × (at "A/RED/X" ≡ 5) × (at "A/RED " ≡ 6) × (at "A/RED  N/X" ≡ 6) × (at "A/RED N" ≡ 7) × (at "A/RED N/" ≡ 8) × (at "A/R(" ≡ 3)
unfolding place19 step keyed time_fits time_place text in_alphabet white
texted = (refl, refl, refl, refl, refl, refl, refl)
