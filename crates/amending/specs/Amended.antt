-- The amended plan (document 01, "The strip", the effect): what a message makes of the plan that stands on a strip. A plan and what a message says are
-- given by their texts, which stand between the parentheses. Assumes nothing.
use Rattle.std.specs.Prelude.{ℕ, ◌≡◌, refl, cond, List, ◌++◌, eqb, take, drop}
use Rattle.alphabet.specs.Text.{bytes}
use Rattle.text.specs.Words.{Word, null}
use Rattle.sent.specs.Sent.{message_of}
use Rattle.kinds.specs.declared.MessageType.TheVariants.{Chg, Dla, Dep}
use Rattle.kinds.specs.declared.Role.{Role}
use Rattle.kinds.specs.declared.Role.TheVariants.{Files, Changes, Delays, Cancels, Departs, Arrives, Neither}
use Rattle.kinds.specs.Kinds.{role_of, plan13, plan18, brief13, brief18}
use Rattle.forms.specs.Field22.{labels}
use Rattle.aerodromes.specs.Aerodromes.{four_letters}
use Rattle.other.specs.Rules.{base}
use Rattle.other.specs.Field18.{words_under}
use Rattle.dates.specs.Dates.{date_in, keys_behind, with_date}
use Rattle.force.specs.InForce.{named_by, field_at, changed_by, fields_from}

-- A DLA'S DATE, that of its own field 18, put into a plan's field 18; as it stands where there is none
abbrev pub dated_by : Word → Word → Word
dated_by date own = cond (null date) own (with_date date own)

-- FIELD k OF THE AMENDED PLAN, from the plan's own: what a CHG's entry makes of it where one names it; of a DLA the time in 13, behind the aerodrome of
-- the plan, and its date in 18; otherwise the plan's own

abbrev pub content_in : Role → Word → List ℕ → ℕ → Word
content_in Changes own said k = changed_by k (named_by said k) own
content_in Delays own said k =
    cond (eqb k plan13) (take 4 own ++ drop 4 (field_at said brief13))
    (cond (eqb k plan18) (dated_by (date_in (field_at said brief18)) own) own)
content_in Cancels own said k = own
content_in Departs own said k = own
content_in Arrives own said k = own
content_in Files own said k = own
content_in Neither own said k = own

abbrev pub content_of : Role → List ℕ → List ℕ → ℕ → Word
content_of role plan said k = content_in role (field_at plan k) said k

-- the nine fields of the amended plan, and the strip that they make
abbrev pub amended : Role → List ℕ → List ℕ → List Word
amended role plan said = fields_from (content_of role plan said) 0 9

unfoldable pub new_strip : Role → List ℕ → List ℕ → List ℕ
new_strip role plan said = message_of (amended role plan said)

-- EXAMPLES, computed

abbrev filed : List ℕ
filed = bytes "FPL-ABC12-IS-B738/M-SDFG/S-EHAM0930-N0440F310 DCT PAM DCT-EDDF0100 EDDK-0"

-- a CHG replaces the fields that it names, a DLA the time in 13, a DEP nothing
changed : new_strip (role_of Chg) filed (bytes "CHG-ABC12-EHAM0930-EDDF-0-9/B39M/M-8/IN")
    ≡ bytes "(FPL-ABC12-IN-B39M/M-SDFG/S-EHAM0930-N0440F310 DCT PAM DCT-EDDF0100 EDDK-0)"
unfolding new_strip named_by labels
changed = refl

-- of field 16 the destination alone, where the entry has no more; otherwise the whole field
diverted : new_strip (role_of Chg) filed (bytes "CHG-ABC12-EHAM0930-EDDF-0-16/EDDN")
    ≡ bytes "(FPL-ABC12-IS-B738/M-SDFG/S-EHAM0930-N0440F310 DCT PAM DCT-EDDN0100 EDDK-0)"
unfolding new_strip named_by labels four_letters
diverted = refl

redirected : new_strip (role_of Chg) filed (bytes "CHG-ABC12-EHAM0930-EDDF-0-16/EDDN0100")
    ≡ bytes "(FPL-ABC12-IS-B738/M-SDFG/S-EHAM0930-N0440F310 DCT PAM DCT-EDDN0100-0)"
unfolding new_strip named_by labels four_letters
redirected = refl

delayed : new_strip (role_of Dla) filed (bytes "DLA-ABC12-EHAM1015-EDDF-0")
    ≡ bytes "(FPL-ABC12-IS-B738/M-SDFG/S-EHAM1015-N0440F310 DCT PAM DCT-EDDF0100 EDDK-0)"
unfolding new_strip words_under
delayed = refl

-- and a DLA's date is put into 18, whatever else its own 18 holds; one without a date leaves 18 as it stands
dated : new_strip (role_of Dla) filed (bytes "DLA-ABC12-EHAM1015-EDDF-DOF/240229 RMK/LATE")
    ≡ bytes "(FPL-ABC12-IS-B738/M-SDFG/S-EHAM1015-N0440F310 DCT PAM DCT-EDDF0100 EDDK-DOF/240229)"
unfolding new_strip words_under with_date
dated = refl

abbrev filed18 : List ℕ
filed18 = bytes "FPL-ABC12-IS-B738/M-SDFG/S-EHAM0930-N0440F310 DCT PAM DCT-EDDF0100 EDDK-DEP/X REG/Y"

redated : new_strip (role_of Dla) filed18 (bytes "DLA-ABC12-EHAM1015-EDDF-DOF/240229")
    ≡ bytes "(FPL-ABC12-IS-B738/M-SDFG/S-EHAM1015-N0440F310 DCT PAM DCT-EDDF0100 EDDK-DEP/X DOF/240229 REG/Y)"
unfolding new_strip words_under with_date keys_behind base
redated = refl

undated : new_strip (role_of Dla) filed18 (bytes "DLA-ABC12-EHAM1015-EDDF-RMK/LATE")
    ≡ bytes "(FPL-ABC12-IS-B738/M-SDFG/S-EHAM1015-N0440F310 DCT PAM DCT-EDDF0100 EDDK-DEP/X REG/Y)"
unfolding new_strip words_under
undated = refl

departed : new_strip (role_of Dep) filed (bytes "DEP-ABC12-EHAM0941-EDDF-0")
    ≡ bytes "(FPL-ABC12-IS-B738/M-SDFG/S-EHAM0930-N0440F310 DCT PAM DCT-EDDF0100 EDDK-0)"
unfolding new_strip
departed = refl
