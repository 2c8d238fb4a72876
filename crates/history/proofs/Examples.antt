-- Document 01's strip and its CHG, and the same strip with a date, by which other updaters are refuted. Assumes nothing.
use mathlib.Core.Path.{◌≡◌, refl}
use Prim.Native.Nat.{ℕ}
use mathlib.Core.List.{List}
use Rattle.alphabet.specs.Text.{bytes}
use Rattle.alphabet.specs.Alphabet.{text, in_alphabet, white}
use Rattle.shape.specs.Shape.{letters}
use Rattle.shape.specs.Time.{time_fits}
use Rattle.space.specs.Reduced.{opens, closes, stands_for_run, reduced_from, reduced}
use Rattle.space.specs.Hyphens.{hyphens}
use Rattle.outer.specs.Outer.{parens_from, parens, letters_from, outer}
use Rattle.head.specs.Field3.{types, fits3, numbers_fit}
use Rattle.head.specs.Field7.{fits7}
use Rattle.head.specs.Field8.{fits8}
use Rattle.head.specs.Field9.{fits9, count_fits, aircraft_fits}
use Rattle.equipment.specs.Field10.{fits10, valid10, present}
use Rattle.aerodromes.specs.Aerodromes.{four_letters, joined}
use Rattle.aerodromes.specs.Field16.{fits16plan}
use Rattle.route.specs.Levels.{speed_digits, level_digits, speeds, levels, starts}
use Rattle.route.specs.Points.{within, radial_fits, indicators, name_fits, point_fits}
use Rattle.route.specs.Field15.{element_fits, fits15}
use Rattle.other.specs.Rules.{base, date, days_in}
use Rattle.other.specs.Field18.{fits_in, has_key}
use Rattle.kinds.specs.declared.MessageType.TheVariants.{Fpl}
use Rattle.kinds.specs.Kinds.{plan_forms, brief_forms, forms_of, types_read, type_ranked, type_named}
use Rattle.forms.specs.Field22.{labels, fits22, fault22}
use Rattle.plan.specs.Unexplained.{unexplained}
use Rattle.message.specs.Reading.{spelling_of, fault_in, count_as, answer_of}
use Rattle.std.specs.Prelude.{Ok}

abbrev pub filing : List ℕ
filing = bytes "(FPL-ABC12-IS-B738/M-SDFG/S-EHAM0930-N0440F310 DCT PAM DCT-EDDF0100 EDDK-0)"

abbrev pub change : List ℕ
change = bytes "(CHG-ABC12-EHAM0930-EDDF-0-9/B39M/M-8/IN)"

pub filing_read : answer_of filing 1800 ≡ Ok (Fpl, 75)
unfolding answer_of count_as fault_in spelling_of outer parens parens_from letters_from in_alphabet white text reduced reduced_from stands_for_run opens closes
    hyphens type_named type_ranked types_read types forms_of plan_forms brief_forms fits3
    numbers_fit fits7 fits8 fits9 count_fits aircraft_fits fits10 valid10 present fits16plan fits15 starts speeds levels
    speed_digits level_digits element_fits letters within radial_fits indicators name_fits point_fits four_letters joined time_fits fits_in unexplained
    has_key labels fits22 fault22
filing_read = refl

abbrev pub dated_filing : List ℕ
dated_filing = bytes "(FPL-ABC12-IS-B738/M-SDFG/S-EHAM0930-N0440F310 DCT PAM DCT-EDDF0100 EDDK-DOF/240229 REG/PHBXA)"

pub dated_read : answer_of dated_filing 1800 ≡ Ok (Fpl, 94)
unfolding answer_of count_as fault_in spelling_of outer parens parens_from letters_from in_alphabet white text reduced reduced_from stands_for_run opens closes
    hyphens type_named type_ranked types_read types forms_of plan_forms brief_forms fits3
    numbers_fit fits7 fits8 fits9 count_fits aircraft_fits fits10 valid10 present fits16plan fits15 starts speeds levels
    speed_digits level_digits element_fits letters within radial_fits indicators name_fits point_fits four_letters joined time_fits fits_in unexplained
    has_key labels fits22 fault22 base date days_in
dated_read = refl
