-- Each form of a field: what it is, what is wrong with a content, and what is written of it. Assumes nothing.
use Rattle.std.specs.Prelude.{ℕ, ◌≡◌, refl, Bool, true, false, cond, List, eqb, Result, Ok, Err}
use Rattle.alphabet.specs.Text.{bytes}
use Rattle.shape.specs.Field.{Field}
use Rattle.shape.specs.Time.{time_fits}
use Rattle.head.specs.Field3.{field3}
use Rattle.head.specs.Field7.{field7}
use Rattle.head.specs.Field8.{field8, fits8}
use Rattle.head.specs.Field9.{field9}
use Rattle.equipment.specs.Field10.{field10, present}
use Rattle.aerodromes.specs.Aerodromes.{four_letters, joined}
use Rattle.aerodromes.specs.Field13.{field13, field13open, fits13open}
use Rattle.aerodromes.specs.Field16.{field16, field16plan, fits16plan}
use Rattle.aerodromes.specs.Field17.{field17}
use Rattle.route.specs.Field15.{field15}
use Rattle.other.specs.Field18.{field18}
use Rattle.supplement.specs.Field19.{fits19, spell19, record19, keyed}
use Rattle.canonical.specs.Canonical.{field19, written19}
use Rattle.kinds.specs.declared.Form.{Form}
use Rattle.kinds.specs.declared.Form.TheVariants.{Field3, Field7, Field8, Field9, Field10, Field13, Field13Open, Field15}
use Rattle.kinds.specs.declared.Form.TheVariants.{Field16, Field16Plan, Field17, Field18, Field19, Field22}
use Rattle.kinds.specs.Kinds.{number_of}
use Rattle.forms.specs.Field22.{labels, field22, which_of, fault22}

abbrev pub field_of : Form → Field
field_of Field3 = field3
field_of Field7 = field7
field_of Field8 = field8
field_of Field9 = field9
field_of Field10 = field10 present
field_of Field13 = field13
field_of Field13Open = field13open
field_of Field15 = field15
field_of Field16 = field16
field_of Field16Plan = field16plan
field_of Field17 = field17
field_of Field18 = field18
field_of Field19 = field19
field_of Field22 = field22

-- an entry, by its form's number
abbrev pub is_entry : Form → Bool
is_entry f = eqb (number_of f) 22

-- the rank of the field that an entry names; 0 for any other content
abbrev pub rank_in : Form → List ℕ → ℕ
rank_in f s = cond (is_entry f) (which_of s) 0

-- the number given back for a content, 0 for none; `again`: an earlier entry names the same field
abbrev pub fault_of : Bool → Form → List ℕ → ℕ
fault_of again f s = cond (is_entry f) (fault22 again s) (cond ((field_of f).fits s) 0 7)

-- by the number given back, 0 for none: it is right, or it has the number
abbrev pub judged : ℕ → Result Unit ℕ
judged number = cond (eqb number 0) (Ok tt) (Err number)

-- what is written of a content that fits: the content itself, but for field 19
abbrev pub written_of : Form → List ℕ → List ℕ
written_of f s = cond (eqb (number_of f) 19) (written19 s) s

-- EXAMPLES, computed

-- in RQP the time may be absent; in FPL and SPL the elapsed time may not
formed : (fault_of false Field13 (bytes "EHAM") ≡ 7) × (fault_of false Field13Open (bytes "EHAM") ≡ 0)
    × (fault_of false Field16 (bytes "EDDF") ≡ 0) × (fault_of false Field16Plan (bytes "EDDF") ≡ 7) × (fault_of true Field16 (bytes "EDDF") ≡ 0)
unfolding fits13open fits16plan joined four_letters time_fits
formed = (refl, refl, refl, refl, refl)

entered : (fault_of false Field22 (bytes "8/IN") ≡ 0) × (fault_of true Field22 (bytes "8/IN") ≡ 9) × (fault_of false Field22 (bytes "14/X") ≡ 8)
    × (rank_in Field22 (bytes "8/IN") ≡ 2) × (rank_in Field18 (bytes "8/IN") ≡ 0)
unfolding fault22 labels fits8
entered = (refl, refl, refl, refl, refl)

-- field 19 alone is rewritten
written : (written_of Field19 (bytes "P/006 R/EVU") ≡ bytes "P/6 R/UVE") × (written_of Field18 (bytes "P/006 R/EVU") ≡ bytes "P/006 R/EVU")
unfolding written19 fits19 spell19 record19 keyed
written = (refl, refl)
