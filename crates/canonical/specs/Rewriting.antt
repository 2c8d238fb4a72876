-- Field 19 rewritten word by word, as the code writes it: each word by what it was read as. `written_words` (proofs/Rewritten.antt) proves
-- that it comes out as `written19`. Assumes nothing.
use Rattle.std.specs.Prelude.{ℕ, suc, Bool, true, false, cond, List, [], ◌∷◌, ◌++◌, eqb, take, drop}
use Rattle.alphabet.specs.Text.{bytes}
use Rattle.text.specs.Words.{Word, split, join, up_to, holds}
use Rattle.supplement.specs.declared.Stage.{Stage}
use Rattle.supplement.specs.declared.Stage.TheVariants.{Start, Endurance, Persons, Radio, Survival, Lights, JacketRadio, Number, Capacity, Colours}
use Rattle.supplement.specs.declared.Stage.TheVariants.{Aircraft, Remarks, Pilot, Refused}
use Rattle.supplement.specs.Walk.{step}
use Rattle.canonical.specs.Canonical.{sorted}

-- the letters of every set, each set's in its order: of a word that fits, those of its own set alone are in it
abbrev pub letters : List ℕ
letters = bytes "UVEPDMJLF"

-- a count's digits without leading zeros; zero is one 0: the word of its `shortest` (`stripped_shortest` in proofs/Counts.antt)
abbrev pub stripped : Word → Word
stripped [] = []
stripped (b ∷ []) = b ∷ []
stripped (b ∷ (c ∷ w)) = cond (eqb b 48) (stripped (c ∷ w)) (b ∷ (c ∷ w))

-- a word, or what of it stands behind an oblique
abbrev pub changed : Stage → Word → Word
changed Start w = w
changed Endurance w = w
changed Persons w = stripped w
changed Radio w = sorted letters w
changed Survival w = sorted letters w
changed Lights w = sorted letters w
changed JacketRadio w = sorted letters w
changed Number w = stripped w
changed Capacity w = stripped w
changed Colours w = w
changed Aircraft w = w
changed Remarks w = w
changed Pilot w = w
changed Refused w = w

-- how many bytes stand up to the oblique, and it; none where there is none
abbrev pub up_to_oblique : Word → ℕ
up_to_oblique w = cond (holds 47 w) (suc (up_to 47 w)) 0

unfoldable pub rewrite : Stage → Word → Word
rewrite stage w = take (up_to_oblique w) w ++ changed stage (drop (up_to_oblique w) w)

abbrev pub rewritten : Stage → List Word → List Word
rewritten stage [] = []
rewritten stage (w ∷ ws) = rewrite (step stage w) w ∷ rewritten (step stage w) ws

unfoldable pub rewritten_text : List ℕ → List ℕ
rewritten_text s = join 32 (rewritten Start (split 32 s))

-- behind the pair of the dinghies nothing is changed: a word that was read so is written as it was sent, and so are all behind it
-- (`settled_words` in proofs/Fitting.antt)
abbrev pub settled : Stage → Bool
settled Start = false
settled Endurance = false
settled Persons = false
settled Radio = false
settled Survival = false
settled Lights = false
settled JacketRadio = false
settled Number = false
settled Capacity = false
settled Colours = true
settled Aircraft = true
settled Remarks = true
settled Pilot = true
settled Refused = false
