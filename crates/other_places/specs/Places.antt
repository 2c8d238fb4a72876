-- The place of a content of field 18 that does not fit, by words. What is known behind some words is the rank of the
-- last key, 0 for none: a further word is one more of that key's, or a later key, an oblique and a word of its rule. Assumes nothing.
use Rattle.std.specs.Prelude.{ℕ, zero, suc, ◌≡◌, refl, Bool, false, ◌&&◌, ◌||◌, not, cond, List, [], ◌∷◌, ◌++◌, ltb, length, drop}
use Prim.Native.String.{String}
use Rattle.std.specs.Prelude.{Option}
use Rattle.alphabet.specs.Text.{bytes}
use Rattle.alphabet.specs.Alphabet.{letter, sign, text, in_alphabet, white, one_of}
use Rattle.text.specs.Words.{Word, split, holds, before, behind, leading}
use Rattle.shape.specs.Shape.{letters}
use Rattle.shape.specs.Time.{time_fits, elapsed_hours}
use Rattle.places.specs.Parts.{larger, no_more, fixed_place, time_place, passes}
use Rattle.places.specs.Words.{Words, words_place}
use Rattle.places.specs.Given.{given}
use Rattle.entries.specs.Entries.{Entry, matched, any_of, entry_place, entries_place}
use Rattle.code_places.specs.Codes.{codes_place}
use Rattle.other.specs.declared.Rule.{Rule}
use Rattle.other.specs.declared.Rule.TheVariants.{Status, Approvals, Day, Timed, Selcal, Address, Free}
use Rattle.other.specs.Rules.{Edition18, base, rank_in, rule_in, word_fits, more_fits, single, statuses, approvals, approved, date, days_in, hexadecimal, timed}

-- THE PLACE IN A WORD, by its rule

-- whether some bytes fit with what one of these words has behind as many
abbrev pub filled : (Word → Bool) → Word → List Word → Bool
filled f p [] = false
filled f p (e ∷ es) = f (p ++ drop (length p) e) || filled f p es

-- a date: some bytes can go on where they are one with the rest of these behind them
abbrev pub date_go : Word → Bool
date_go p = filled date p (split 32 (bytes "000101 000100"))

-- signs, so many, and a time: for 2 to 11 of them
abbrev pub signs_time : ℕ → Word → ℕ
signs_time zero w = 0
signs_time (suc n) w = larger (fixed_place sign (suc (suc n)) (time_place elapsed_hours) w) (signs_time n w)

abbrev pub rule_place : Rule → Word → ℕ
rule_place Status w = any_of statuses w
rule_place Approvals w = codes_place approvals 16 w
rule_place Day w = passes date_go [] w
rule_place Timed w = signs_time 10 w
rule_place Selcal w = fixed_place letter 4 no_more w
rule_place Address w = fixed_place (λ b. one_of b hexadecimal) 6 no_more w
rule_place Free w = leading text w

-- THE WORDS

-- a key, an oblique, and a word of the key's rule
abbrev pub keyed : Word → Rule → Entry
keyed v r = record { label = v; fits = word_fits r; place = rule_place r }

-- the keys behind rank k, as labels; j is the rank of the first of the list
abbrev pub later_keys : Edition18 → ℕ → ℕ → List Word → List Entry
later_keys ed k j [] = []
later_keys ed k j (v ∷ vs) =
    cond (ltb k j) (keyed v (rule_in ed j) ∷ later_keys ed k (suc j) vs) (later_keys ed k (suc j) vs)

-- the place of a word as the key of rank j, where that is behind rank k
abbrev pub later_place : Edition18 → ℕ → ℕ → Word → Word → ℕ
later_place ed k j v w = cond (ltb k j) (entry_place (keyed v (rule_in ed j)) w) 0

abbrev pub item_after : Edition18 → ℕ → ℕ → Word → Option ℕ
item_after ed k r w = given (ltb k r && word_fits (rule_in ed r) w) r

abbrev pub items : Edition18 → Words
items ed =
    record {
      K = ℕ;
      after = λ k w. cond (holds 47 w) (item_after ed k (rank_in ed (before 47 w)) (behind 47 w)) (given (ltb 0 k && more_fits (rule_in ed k) w) k);
      final = λ k. ltb 0 k;
      goes = λ k. (ltb 0 k && not (single (rule_in ed k))) || ltb k (length ed.keys);
    }

abbrev pub more_place : Edition18 → ℕ → Word → ℕ
more_place ed k w = cond (ltb 0 k && not (single (rule_in ed k))) (rule_place (rule_in ed k) w) 0

abbrev pub keys_place : Edition18 → ℕ → Word → ℕ
keys_place ed k w = entries_place (later_keys ed k 1 ed.keys) w

abbrev pub items_word : Edition18 → ℕ → Word → ℕ
items_word ed k w = larger (more_place ed k w) (keys_place ed k w)

unfoldable pub items_place : Edition18 → List ℕ → ℕ
items_place ed s = words_place (items ed) (items_word ed) 0 (split 32 s)

-- `0` alone, or items
unfoldable pub place18 : Edition18 → List ℕ → ℕ
place18 ed s = larger (matched (bytes "0") s) (items_place ed s)

-- EXAMPLES, computed

abbrev at : String → ℕ
at s = place18 base (bytes s)

placed : (at "DOF/230229" ≡ 9) × (at "DOF/241301" ≡ 7) × (at "RMK/A STS/HOSP" ≡ 9) × (at "STS/HOSPX" ≡ 8) × (at "" ≡ 0) × (at "00" ≡ 1)
    × (at "RMK/" ≡ 4) × (at "A RMK/B" ≡ 1) × (at "DOF/240229 X" ≡ 11) × (at "PBN/A1A1" ≡ 6) × (at "PBN/A1 B1" ≡ 7)
    × (at "EET/EISN0060" ≡ 12) × (at "SEL/FJE" ≡ 7) × (at "CODE/F0000G" ≡ 10)
unfolding place18 items_place codes_place base statuses approved approvals date days_in letters time_place timed time_fits hexadecimal text in_alphabet white
placed = (refl, refl, refl, refl, refl, refl, refl, refl, refl, refl, refl, refl, refl, refl)
