-- What a word under a key of field 18 says, by the key's rule (document 01, field 18): a date, codes, an elapsed time, .. Assumes nothing.
use Rattle.std.specs.Prelude.{ℕ, ◌-◌, ◌≡◌, refl, Bool, true, false, ◌&&◌, List, [], ◌++◌, leb, length, take, drop}
use Rattle.alphabet.specs.Text.{bytes}
use Rattle.alphabet.specs.Alphabet.{sign}
use Rattle.text.specs.Words.{Word, all, split}
use Rattle.shape.specs.Time.{elapsed_of, spell_elapsed, valid_elapsed}
use Rattle.shape.specs.declared.Elapsed.{Elapsed}
use Rattle.codes.specs.Codes.{codes, concat}
use Rattle.other.specs.Rules.{Date, date_of, spell_date, valid_date, days_in, approvals as approval_codes, approved_codes, hexadecimal, word_fits, same_rule}
use Rattle.other.specs.declared.Rule.{Rule}
use Rattle.other.specs.declared.Rule.TheVariants.{Status, Approvals, Day, Timed, Selcal, Address, Free}

-- AN ELEMENT: a status, the codes of an approval, a date, signs with an elapsed time, letters, an address, or any text

pub data Element : Type 0 where
  status : Word → Element
  approvals : List Word → Element
  day : Date → Element
  timed : Word → Elapsed → Element
  selcal : Word → Element
  address : Word → Element
  free : Word → Element

abbrev pub spell_element : Element → Word
spell_element (status w) = w
spell_element (approvals ws) = concat ws
spell_element (day d) = spell_date d
spell_element (timed w t) = w ++ spell_elapsed t
spell_element (selcal w) = w
spell_element (address w) = w
spell_element (free w) = w

-- VALID UNDER A KEY OF A RULE: an element of that rule, and what it holds is as the rule says

abbrev pub rule_for : Element → Rule
rule_for (status w) = Status
rule_for (approvals ws) = Approvals
rule_for (day d) = Day
rule_for (timed w t) = Timed
rule_for (selcal w) = Selcal
rule_for (address w) = Address
rule_for (free w) = Free

-- EET, DLE: 2 to 11 signs before the elapsed time
abbrev pub valid_signs : Word → Bool
valid_signs w = leb 2 (length w) && (leb (length w) 11 && all sign w)

abbrev pub holds_valid : Element → Bool
holds_valid (status w) = word_fits Status w
holds_valid (approvals ws) = approved_codes ws
holds_valid (day d) = valid_date d
holds_valid (timed w t) = valid_signs w && valid_elapsed t
holds_valid (selcal w) = word_fits Selcal w
holds_valid (address w) = word_fits Address w
holds_valid (free w) = word_fits Free w

abbrev pub valid_element : Rule → Element → Bool
valid_element r e = same_rule r (rule_for e) && holds_valid e

-- THE ELEMENT THAT A WORD IS, under a key of this rule
abbrev pub element_of : Rule → Word → Element
element_of Status w = status w
element_of Approvals w = approvals (codes w)
element_of Day w = day (date_of w)
element_of Timed w = timed (take (length w - 4) w) (elapsed_of (drop (length w - 4) w))
element_of Selcal w = selcal w
element_of Address w = address w
element_of Free w = free w

-- EXAMPLES, computed

date_of_lem : element_of Day (bytes "240229") ≡ day (record { year = 24; month = 2; day = 29 })
date_of_lem = refl

codes_of : element_of Approvals (bytes "A1B1") ≡ approvals (split 32 (bytes "A1 B1"))
codes_of = refl

time_of_lem : element_of Timed (bytes "EISN0026") ≡ timed (bytes "EISN") (record { 0 = 26 })
time_of_lem = refl

abbrev spelled_date : ℕ → ℕ → ℕ → Word
spelled_date y m d = spell_element (day (record { year = y; month = m; day = d }))

spelled : (spelled_date 24 2 29 ≡ bytes "240229") × (spell_element (timed (bytes "MDG") (record { 0 = 90 })) ≡ bytes "MDG0130")
spelled = (refl, refl)

abbrev dated : ℕ → ℕ → ℕ → Bool
dated y m d = valid_element Day (day (record { year = y; month = m; day = d }))

dates : (dated 24 2 29 ≡ true) × (dated 23 2 29 ≡ false) × (dated 99 12 31 ≡ true) × (dated 100 12 31 ≡ false)
    × (dated 24 13 1 ≡ false) × (dated 24 0 1 ≡ false) × (dated 24 1 0 ≡ false)
unfolding days_in
dates = (refl, refl, refl, refl, refl, refl, refl)

abbrev lasting : Word → ℕ → Bool
lasting w n = valid_element Timed (timed w (record { 0 = n }))

times : (lasting (bytes "EISN") 5999 ≡ true) × (lasting (bytes "EISN") 6000 ≡ false) × (lasting (bytes "E") 26 ≡ false) × (lasting (bytes "E1") 26 ≡ true)
    × (lasting (bytes "ABCDEFGHIJK") 26 ≡ true) × (lasting (bytes "ABCDEFGHIJKL") 26 ≡ false) × (lasting (bytes "A.B") 26 ≡ false)
times = (refl, refl, refl, refl, refl, refl, refl)

coded : (valid_element Approvals (approvals (split 32 (bytes "A1 B1"))) ≡ true) × (valid_element Approvals (approvals (split 32 (bytes "A1 A1"))) ≡ false)
    × (valid_element Approvals (approvals (split 32 (bytes "A1B1"))) ≡ false) × (valid_element Approvals (approvals []) ≡ false)
unfolding approval_codes
coded = (refl, refl, refl, refl)

-- an element of another rule is not valid
tried : (valid_element Selcal (selcal (bytes "FJEL")) ≡ true) × (valid_element Selcal (selcal (bytes "FJE")) ≡ false)
    × (valid_element Free (selcal (bytes "FJEL")) ≡ false) × (valid_element Selcal (free (bytes "FJEL")) ≡ false)
    × (valid_element Address (address (bytes "F00001")) ≡ true) × (valid_element Address (address (bytes "F0000G")) ≡ false)
unfolding hexadecimal
tried = (refl, refl, refl, refl, refl, refl)
