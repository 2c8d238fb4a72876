-- Messages and their answers, computed: document 01's listing, a message of each type, and a refusal of each number. Assumes nothing.
use mathlib.Core.Path.{◌≡◌, refl}
use mathlib.Core.Bool.{true, false}
use mathlib.Core.List.{◌++◌}
use lib.ListN.{replicate}
use Rattle.alphabet.specs.Text.{bytes}
use Rattle.alphabet.specs.Alphabet.{text, in_alphabet, white}
use Rattle.text.specs.Lent.{front}
use Rattle.shape.specs.Shape.{letters}
use Rattle.shape.specs.Time.{time_fits}
use Rattle.space.specs.Reduced.{opens, closes, stands_for_run, reduced_from, reduced}
use Rattle.space.specs.Hyphens.{hyphens, up_to_hyphen, place_of_hyphen, behind_hyphen}
use Rattle.space.specs.Places.{sent_from, sent_place}
use Rattle.places.specs.Parts.{time_place}
use Rattle.head_places.specs.Places.{place7, place9, aircraft_place}
use Rattle.form_places.specs.Places.{place22}
use Rattle.outer.specs.Outer.{parens_from, parens, letters_from, outer}
use Rattle.head.specs.Field3.{types, fits3, numbers_fit}
use Rattle.head.specs.Field7.{fits7}
use Rattle.head.specs.Field8.{fits8}
use Rattle.head.specs.Field9.{fits9, count_fits, aircraft_fits}
use Rattle.equipment.specs.Field10.{fits10, valid10, present}
use Rattle.aerodromes.specs.Aerodromes.{four_letters, joined}
use Rattle.aerodromes.specs.Field13.{fits13open}
use Rattle.aerodromes.specs.Field16.{fits16plan}
use Rattle.aerodromes.specs.Field17.{fits17, unlisted}
use Rattle.route.specs.Levels.{speed_digits, level_digits, speeds, levels, starts}
use Rattle.route.specs.Points.{within, radial_fits, indicators, name_fits, point_fits}
use Rattle.route.specs.Field15.{element_fits, fits15}
use Rattle.other.specs.Field18.{fits_in, has_key}
use Rattle.supplement.specs.Field19.{fits19, spell19, record19, keyed}
use Rattle.canonical.specs.Canonical.{written19}
use Rattle.kinds.specs.declared.MessageType.TheVariants.{Fpl, Chg, Cnl, Dla, Dep, Arr, Rqp, Rqs, Spl}
use Rattle.kinds.specs.Kinds.{plan_forms, brief_forms, request_forms, arrival_forms, diverted_forms, supplement_forms, forms_of, form_at}
use Rattle.kinds.specs.Kinds.{types_read, type_ranked, type_named}
use Rattle.forms.specs.Field22.{labels, fits22, fault22}
use Rattle.plan.specs.Unexplained.{unexplained}
use Rattle.message.specs.Reading.{place_of7, spelling_of, fault_in, count_as, answer_of, out_after, plan_itself}
use Rattle.std.specs.Prelude.{Ok, Err}
use Rattle.outer.specs.Refusal.{refusal}

-- THE LISTING of document 01

pub cancelled : answer_of (bytes "(CNL-ABC12-EHAM0930-EDDF-0)") 100 ≡ Ok (Cnl, 27)
unfolding answer_of count_as fault_in spelling_of outer parens parens_from letters_from in_alphabet white reduced reduced_from stands_for_run opens closes
    hyphens type_named type_ranked types_read types forms_of brief_forms fits3 numbers_fit fits7 four_letters joined time_fits fits_in
cancelled = refl

pub not_a_time : answer_of (bytes "(DLA-ABC12-EHAM2460-EDDF-0)") 100 ≡ Err (refusal 7 13 16)
unfolding answer_of place_of7 sent_place sent_from behind_hyphen time_place count_as fault_in outer parens parens_from letters_from in_alphabet white reduced
    reduced_from stands_for_run opens closes hyphens
    up_to_hyphen place_of_hyphen type_named type_ranked types_read types forms_of brief_forms form_at fits3 numbers_fit fits7 four_letters joined time_fits
not_a_time = refl

pub not_read : answer_of (bytes "(ACP-ABC12)") 100 ≡ Err (refusal 5 3 0)
unfolding answer_of outer parens parens_from letters_from in_alphabet white type_named type_ranked types_read types
not_read = refl

-- A MESSAGE OF EACH TYPE is accepted; field 19 is rewritten, and white space reduced

pub accepted_types :
    (answer_of (bytes "(FPL-ABC12-IS-B738/M-SDFG/S-EHAM0930-N0440F310 DCT PAM DCT-EDDF0100 EDDK-0)") 100 ≡ Ok (Fpl, 75))
    × (answer_of (bytes "(CHG-ABC12-EHAM0930-EDDF-0-9/B39M/M-8/IN)") 100 ≡ Ok (Chg, 41))
    × (answer_of (bytes "(DLA-ABC12-EHAM0930-EDDF-0)") 100 ≡ Ok (Dla, 27))
    × (answer_of (bytes "(DEP-ABC12 \r\n-EHAM0930-EDDF-0)") 100 ≡ Ok (Dep, 27))
    × (answer_of (bytes "(ARR-ABC12-EHAM0930-EDDF1433)") 100 ≡ Ok (Arr, 29))
    × (answer_of (bytes "(ARR-ABC12-EHAM0930-EDDF-ZZZZ1620 SOBKIVKA)") 100 ≡ Ok (Arr, 43))
    × (answer_of (bytes "(RQP-ABC12-EHAM-EDDF-0)") 100 ≡ Ok (Rqp, 23))
    × (answer_of (bytes "(RQS-ABC12-EHAM0930-EDDF-0)") 100 ≡ Ok (Rqs, 27))
    × (answer_of (bytes "(SPL-ABC12-EHAM0930-EDDF0100-0-P/006 R/EVU)") 100 ≡ Ok (Spl, 41))
    × (spelling_of Spl (bytes "(SPL-ABC12-EHAM0930-EDDF0100-0-P/006 R/EVU)") ≡ bytes "(SPL-ABC12-EHAM0930-EDDF0100-0-P/6 R/UVE)")
unfolding answer_of count_as fault_in spelling_of outer parens parens_from letters_from in_alphabet white text reduced reduced_from stands_for_run opens closes
    hyphens type_named type_ranked types_read types forms_of plan_forms brief_forms request_forms arrival_forms diverted_forms supplement_forms fits3
    numbers_fit fits7 fits8 fits9 count_fits aircraft_fits fits10 valid10 present fits13open fits16plan fits17 unlisted fits15 starts speeds levels
    speed_digits level_digits element_fits letters within radial_fits indicators name_fits point_fits four_letters joined time_fits fits_in unexplained
    has_key labels fits22 fault22 written19 fits19 spell19 record19 keyed
accepted_types = (refl, refl, refl, refl, refl, refl, refl, refl, refl, refl)

-- A REFUSAL OF EACH NUMBER (5 and 7 are in the listing)

pub refused_outer :
    (answer_of (replicate 1801 40) 100 ≡ Err (refusal 1 0 1800))
    × (answer_of (bytes "") 100 ≡ Err (refusal 2 0 0))
    × (answer_of (bytes "(") 100 ≡ Err (refusal 2 0 1))
    × (answer_of (bytes "((") 100 ≡ Err (refusal 2 0 1))
    × (answer_of (bytes "(CNL*)") 100 ≡ Err (refusal 3 0 4))
    × (answer_of (bytes "(XYZ-ABC12)") 100 ≡ Err (refusal 4 3 0))
    × (answer_of (bytes "(CN)") 100 ≡ Err (refusal 4 3 0))
unfolding answer_of outer parens parens_from letters_from in_alphabet white type_named type_ranked types_read types
refused_outer = (refl, refl, refl, refl, refl, refl, refl)

pub refused_fields :
    (answer_of (bytes "(CNL-ABC12)") 100 ≡ Err (refusal 6 0 10))
    × (answer_of (bytes "(CNL-ABC12-EHAM0930-EDDF-0-0-0)") 100 ≡ Err (refusal 6 0 26))
    × (answer_of (bytes "(CHG-ABC12-EHAM0930-EDDF-0-9/X)") 100 ≡ Err (refusal 7 22 30))
    × (answer_of (bytes "(CHG-ABC12-EHAM0930-EDDF-0-14/X)") 100 ≡ Err (refusal 8 22 26))
    × (answer_of (bytes "(CHG-ABC12-EHAM0930-EDDF-0-8/IN-8/IS)") 100 ≡ Err (refusal 9 22 31))
    × (answer_of (bytes "(FPL-ABC12-IS-ZZZZ/M-SDFG/S-EHAM0930-N0440F310 DCT PAM DCT-EDDF0100 EDDK-0)") 100 ≡ Err (refusal 10 9 13))
    × (answer_of (bytes "(CNL-ABC12-EHAM0930-EDDF-0)") 26 ≡ Err (refusal 11 0 0))
unfolding answer_of place_of7 sent_place sent_from behind_hyphen place9 aircraft_place place22 count_as fault_in spelling_of outer parens parens_from
    letters_from
    in_alphabet white reduced reduced_from stands_for_run opens closes
    hyphens up_to_hyphen place_of_hyphen type_named type_ranked types_read types forms_of plan_forms brief_forms form_at fits3 numbers_fit fits7 fits8 fits9
    count_fits aircraft_fits fits10 valid10 present fits16plan fits15 starts speeds levels speed_digits level_digits element_fits letters within
    radial_fits indicators name_fits point_fits four_letters joined time_fits fits_in unexplained has_key labels fits22 fault22
refused_fields = (refl, refl, refl, refl, refl, refl, refl)

-- THE OUTPUT: the spelling at its front and the bytes behind it as they were; after a refusal all of them

pub written_out :
    (out_after (bytes "(CNL-ABC12-EHAM0930-EDDF-0)") (replicate 100 46) ≡ bytes "(CNL-ABC12-EHAM0930-EDDF-0)" ++ replicate 73 46)
    × (out_after (bytes "(DLA-ABC12-EHAM0930-EDDF-0)") (replicate 100 46) ≡ bytes "(DLA-ABC12-EHAM0930-EDDF-0)" ++ replicate 73 46)
    × (out_after (bytes "(DLA-ABC12-EHAM2460-EDDF-0)") (replicate 100 46) ≡ replicate 100 46)
unfolding out_after front answer_of count_as fault_in spelling_of outer parens parens_from letters_from in_alphabet white reduced reduced_from stands_for_run
    opens closes hyphens up_to_hyphen place_of_hyphen type_named type_ranked types_read types forms_of brief_forms form_at fits3 numbers_fit fits7
    four_letters joined time_fits fits_in
written_out = (refl, refl, refl)

-- POINTING AT THE BYTE: a run where no space may stand has its first byte, a content that stops too soon before white space that drops out has
-- the first byte that drops out
pub pointed :
    (answer_of (bytes "(CNL-ABC12-EHAM \r\n0930-EDDF-0)") 100 ≡ Err (refusal 7 13 15))
    × (answer_of (bytes "(CNL-ABC12-EHAM09 \r\n-EDDF-0)") 100 ≡ Err (refusal 7 13 17))
    × (answer_of (bytes "(CNL-ABC12/A7780 -EHAM0930-EDDF-0)") 100 ≡ Err (refusal 7 7 14))
    × (answer_of (bytes "(CNL-ABC12-EHAM0930- EDDF-0)") 100 ≡ Err (refusal 7 16 20))
unfolding answer_of place_of7 sent_place sent_from behind_hyphen time_place place7 letters count_as fault_in outer parens parens_from letters_from in_alphabet
    white
    reduced reduced_from stands_for_run opens closes hyphens up_to_hyphen place_of_hyphen type_named type_ranked types_read types forms_of brief_forms form_at
    fits3 numbers_fit fits7 four_letters joined time_fits
pointed = (refl, refl, refl, refl)

-- A PLAN AS IT IS WRITTEN: accepted as a plan, and its own reduction
pub itself :
    (plan_itself (bytes "(FPL-ABC12-IS-B738/M-SDFG/S-EHAM0930-N0440F310 DCT PAM DCT-EDDF0100 EDDK-0)") ≡ true)
    × (plan_itself (bytes "(FPL-ABC12 -IS-B738/M-SDFG/S-EHAM0930-N0440F310 DCT PAM DCT-EDDF0100 EDDK-0)") ≡ false)
    × (plan_itself (bytes "(DLA-ABC12-EHAM0930-EDDF-0)") ≡ false)
unfolding plan_itself answer_of count_as fault_in spelling_of outer parens parens_from letters_from in_alphabet white reduced reduced_from stands_for_run
    opens closes
    hyphens type_named type_ranked types_read types forms_of plan_forms brief_forms fits3 numbers_fit fits7 fits8 fits9 count_fits aircraft_fits fits10 valid10
    present fits16plan fits15 starts speeds levels speed_digits level_digits element_fits letters within radial_fits indicators name_fits point_fits
    four_letters joined time_fits fits_in unexplained has_key
itself = (refl, refl, refl)
