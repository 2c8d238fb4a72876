-- Field 19 word by word, as the code walks it: what has been read so far, and what the next word may be. `walk_fits` (proofs/Walk.antt)
-- proves that it comes out as `fits19`. Assumes nothing.
use Rattle.std.specs.Prelude.{ℕ, Bool, true, false, cond, List, [], ◌∷◌, ltb}
use Rattle.text.specs.Words.{Word, holds, before, behind, same, text_word}
use Rattle.shape.specs.Time.{elapsed_fits}
use Rattle.supplement.specs.Field19.{Key, E, P, R, S, J, D, A, N, C, Other}
use Rattle.supplement.specs.declared.Stage.{Stage}
use Rattle.supplement.specs.declared.Stage.TheVariants.{Start, Endurance, Persons, Radio, Survival, Lights, JacketRadio, Number, Capacity, Colours}
use Rattle.supplement.specs.declared.Stage.TheVariants.{Aircraft, Remarks, Pilot, Refused}
use Rattle.supplement.specs.Field19.{keyed, place, count, some_of, colour, radio_letters, survival_letters, light_letters, jacket_radio_letters}
use Rattle.supplement.specs.Field19.{persons_digits, number_digits, capacity_digits, cover}

-- the place that the next item's key has to be behind; none is behind C's
abbrev pub past : Stage → ℕ
past Start = 0
past Endurance = place E
past Persons = place P
past Radio = place R
past Survival = place S
past Lights = place J
past JacketRadio = place J
past Number = place C
past Capacity = place D
past Colours = place D
past Aircraft = place A
past Remarks = place N
past Pilot = place C
past Refused = place C

-- the words may end here
abbrev pub complete : Stage → Bool
complete Start = false
complete Endurance = true
complete Persons = true
complete Radio = true
complete Survival = true
complete Lights = true
complete JacketRadio = true
complete Number = false
complete Capacity = true
complete Colours = true
complete Aircraft = true
complete Remarks = true
complete Pilot = true
complete Refused = false

-- the cover, or a colour
abbrev pub shaded : Word → Stage
shaded w = cond (same w cover) Colours (cond (colour w) Colours Refused)

-- the first word of an item, behind its oblique
abbrev pub first : Key → Word → Stage
first E w = cond (elapsed_fits w) Endurance Refused
first P w = cond (count persons_digits w) Persons Refused
first R w = cond (some_of radio_letters w) Radio Refused
first S w = cond (some_of survival_letters w) Survival Refused
first J w = cond (some_of light_letters w) Lights Refused
first D w = cond (count number_digits w) Number (shaded w)
first A w = cond (text_word w) Aircraft Refused
first N w = cond (text_word w) Remarks Refused
first C w = cond (text_word w) Pilot Refused
first Other w = Refused

-- a further word of an item
abbrev pub further : Stage → Word → Stage
further Start w = Refused
further Endurance w = Refused
further Persons w = Refused
further Radio w = Refused
further Survival w = Refused
further Lights w = cond (some_of jacket_radio_letters w) JacketRadio Refused
further JacketRadio w = Refused
further Number w = cond (count capacity_digits w) Capacity Refused
further Capacity w = shaded w
further Colours w = cond (colour w) Colours Refused
further Aircraft w = cond (text_word w) Aircraft Refused
further Remarks w = cond (text_word w) Remarks Refused
further Pilot w = cond (text_word w) Pilot Refused
further Refused w = Refused

-- a word: it begins an item where it holds an oblique
abbrev pub opens : Stage → Key → Word → Stage
opens stage key w = cond (ltb (past stage) (place key)) (first key w) Refused

unfoldable pub step : Stage → Word → Stage
step stage w = cond (holds 47 w) (opens stage (keyed (before 47 w)) (behind 47 w)) (further stage w)

abbrev pub walked : Stage → List Word → Bool
walked stage [] = complete stage
walked stage (w ∷ ws) = walked (step stage w) ws
