-- The examples that document 01 marks to be proved, some others of it and of document 02: one list, and one statement over it. Assumes nothing.
use Rattle.std.specs.Prelude.{ℕ, ◌≡◌, true, false, List, [], ◌∷◌, ◌++◌, length, replicate, Ok, Err}
use Prim.Native.String.{String}
use Rattle.std.proofs.Math.Option.{some}
use Rattle.alphabet.specs.Text.{bytes}
use Rattle.shape.specs.Field.{Field, read}
use Rattle.shape.specs.Time.{clock_fits}
use Rattle.head.specs.Field7.{field7}
use Rattle.head.specs.Field9.{field9}
use Rattle.equipment.specs.Field10.{field10, present}
use Rattle.aerodromes.specs.Field13.{field13}
use Rattle.aerodromes.specs.Field16.{field16plan, field16entry}
use Rattle.aerodromes.specs.Field17.{field17}
use Rattle.route.specs.Points.{in_degrees, in_minutes, with_bearing}
use Rattle.route.specs.Field15.{Element, plain, record15, field15}
use Rattle.other.specs.Field18.{field18}
use Rattle.canonical.specs.Canonical.{field19}
use Rattle.kinds.specs.declared.MessageType.{MessageType}
use Rattle.kinds.specs.declared.MessageType.TheVariants.{Cnl}
use Rattle.outer.specs.Outer.{most}
use Rattle.message.specs.Reading.{answer_of, spelling_of}
use Rattle.state.specs.State.{just_filed}
use Rattle.strip.specs.Updating.{update_of, out_after}
use Rattle.asked.specs.Asking.{Asked, asked_of}
use Rattle.outer.specs.Refusal.{refusal}
use Rattle.asked.specs.declared.Place.TheVariants.{InChange, InStrip}

-- what an example says of the definitions
pub data Example : Type 1 where
  -- a content fits a field's form, or does not
  fits : Field → String → Example
  no : Field → String → Example
  -- a content fits as a record
  fits_as : (f : Field) → String → f.Record → Example
  -- a word of a route fits as an element, the only one behind speed and level, or does not fit there
  route_as : String → Element → Example
  route_no : String → Example
  -- four digits are a time of day, or are none
  time : String → Example
  no_time : String → Example
  -- a message is accepted as one of a type, with a spelling, or is refused with a number, a field and a place; the room is 1,800 bytes
  accepted : String → MessageType → String → Example
  refused : String → ℕ → ℕ → ℕ → Example
  -- a strip as filed is given a new spelling by a message, in room for just that
  updated : String → String → String → Example
  -- or the message is refused with a number, a field and a place; the room is 1,800 bytes
  not_updated : String → String → ℕ → ℕ → ℕ → Example
  -- the field in force, by its number, stands at a place of the strip or of the CHG, or is refused
  asked : String → String → ℕ → Asked → Example

abbrev pub alone : String → List ℕ
alone word = bytes "N0440F310 " ++ bytes word

abbrev pub Holds : Example → Type 0
Holds (fits f s) = f.fits (bytes s) ≡ true
Holds (no f s) = f.fits (bytes s) ≡ false
Holds (fits_as f s r) = read f (bytes s) ≡ some r
Holds (route_as w x) = (field15.fits (alone w) ≡ true) × ((record15 (alone w)).route ≡ x ∷ [])
Holds (route_no w) = field15.fits (alone w) ≡ false
Holds (time s) = clock_fits (bytes s) ≡ true
Holds (no_time s) = clock_fits (bytes s) ≡ false
Holds (accepted s t w) = (answer_of (bytes s) most ≡ Ok (t, length (bytes w))) × (spelling_of t (bytes s) ≡ bytes w)
Holds (refused s number field place) = answer_of (bytes s) most ≡ Err (refusal number field place)
Holds (updated s m w) =
    (update_of (bytes s) just_filed (bytes m) (length (bytes w)) ≡ Ok (just_filed, length (bytes w)))
    × (out_after (bytes s) just_filed (bytes m) (replicate (length (bytes w)) 0) ≡ bytes w)
Holds (not_updated s m number field place) = update_of (bytes s) just_filed (bytes m) most ≡ Err (refusal number field place)
Holds (asked s m number a) = asked_of (bytes s) just_filed (bytes m) number ≡ a

abbrev pub AllHold : List Example → Type 0
AllHold [] = Unit
AllHold (x ∷ xs) = Holds x × AllHold xs

-- contents of fields, words of a route, and times
abbrev pub of_fields : List Example
of_fields =
    fits_as field9 "2FK27/M" (record { count = 2; type = bytes "FK27"; wake = 77 })
    ∷ (no field9 "1B707/M"
    ∷ (fits field7 "ABC12/A7777"
    ∷ (no field7 "ABC12/A7780"
    ∷ (route_as "46N078W" (plain (in_degrees (record { latitude = 46; north = 78; longitude = 78; east = 87 })))
    ∷ (route_no "91N078W"
    ∷ (route_as "9000N18000E" (plain
    (in_minutes
    (record { latitude = 90; latitude_minutes = 0; north = 78; longitude = 180; longitude_minutes = 0; east = 69 })))
    ∷ (route_no "9001N07805W"
    ∷ (route_as "FOJ180040" (plain (with_bearing (record { point = bytes "FOJ"; bearing = 180; distance = 40 })))
    ∷ (route_no "FOJ361040"
    ∷ (fits field18 "DOF/240229"
    ∷ (no field18 "DOF/230229"
    ∷ (no field18 "RMK/A STS/HOSP"
    ∷ (fits field18 "0"
    ∷ (no field18 ""
    ∷ (fits field17 "ZZZZ1620 SOBKIVKA"
    ∷ (no field17 "ZZZZ1620"
    ∷ (no field17 "EHAM1433 X"
    ∷ (time "2359"
    ∷ (no_time "2400"
    ∷ (no (field10 present) "SE/C" ∷ []))))))))))))))))))))

-- elapsed times of more than a day (document 02, request 1)
abbrev pub of_elapsed : List Example
of_elapsed =
    fits_as field16plan "EDDF2600" (record { destination = bytes "EDDF"; elapsed = record { 0 = 1560 }; alternates = [] })
    ∷ (fits field16plan "EDDF9959"
    ∷ (no field16plan "EDDF0060"
    ∷ (no field13 "EHAM2400"
    ∷ (fits field18 "EET/EISN9959"
    ∷ (fits field19 "E/2400" ∷ [])))))

-- whole messages
abbrev pub of_messages : List Example
of_messages =
    accepted "(CNL-ABC12-EHAM0930-EDDF-0)" Cnl "(CNL-ABC12-EHAM0930-EDDF-0)"
    ∷ (refused "(DLA-ABC12-EHAM2460-EDDF-0)" 7 13 16
    ∷ (refused "(ACP-ABC12)" 5 3 0
    ∷ (refused "(" 2 0 1
    ∷ (refused "((" 2 0 1 ∷ []))))

-- a bare new destination, and then the CHG that must name it (document 02, request 2)
abbrev pub of_destinations : List Example
of_destinations =
    fits field16entry "EDDN"
    ∷ (no field16entry "EDDN EDDK"
    ∷ (refused "(CHG-ABC12-EHAM0930-EDDF-0-16/EDDN-16/EDDM)" 9 22 34
    ∷ (updated "(FPL-ABC12-IS-B738/M-SDFG/S-EHAM0930-N0440F310 DCT PAM DCT-EDDF0100 EDDK-0)" "(CHG-ABC12-EHAM0930-EDDF-0-16/EDDN)"
    "(FPL-ABC12-IS-B738/M-SDFG/S-EHAM0930-N0440F310 DCT PAM DCT-EDDN0100 EDDK-0)"
    ∷ (not_updated "(FPL-ABC12-IS-B738/M-SDFG/S-EHAM0930-N0440F310 DCT PAM DCT-EDDN0100 EDDK-0)" "(CHG-ABC12-EHAM0930-EDDF-0-8/IN)" 12 0 0
    ∷ (updated "(FPL-ABC12-IS-B738/M-SDFG/S-EHAM0930-N0440F310 DCT PAM DCT-EDDN0100 EDDK-0)" "(CHG-ABC12-EHAM0930-EDDN-0-16/EDDN0100)"
    "(FPL-ABC12-IS-B738/M-SDFG/S-EHAM0930-N0440F310 DCT PAM DCT-EDDN0100-0)"
    ∷ (not_updated "(FPL-ABC12-IS-B738/M-SDFG/S-EHAM0930-N0440F310 DCT PAM DCT-EDDF0100 EDDK-0)" "(CHG-ABC12-EHAM0930-EDDF-0-16/ZZZZ)" 10 16 0
    ∷ (asked "(FPL-ABC12-IS-B738/M-SDFG/S-EHAM0930-N0440F310 DCT PAM DCT-EDDF0100 EDDK-0)" "(CHG-ABC12-EHAM0930-EDDF-0-16/EDDN-8/IN)" 16 (Err (refusal 17 0 0))
    ∷ (asked "(FPL-ABC12-IS-B738/M-SDFG/S-EHAM0930-N0440F310 DCT PAM DCT-EDDF0100 EDDK-0)" "(CHG-ABC12-EHAM0930-EDDF-0-16/EDDN-8/IN)" 8
    (Ok (InChange 37 39)) ∷ []))))))))

-- document 01's strip and its CHG
abbrev pub of_strips : List Example
of_strips =
    updated "(FPL-ABC12-IS-B738/M-SDFG/S-EHAM0930-N0440F310 DCT PAM DCT-EDDF0100 EDDK-0)" "(CHG-ABC12-EHAM0930-EDDF-0-9/B39M/M-8/IN)"
    "(FPL-ABC12-IN-B39M/M-SDFG/S-EHAM0930-N0440F310 DCT PAM DCT-EDDF0100 EDDK-0)"
    ∷ (asked "(FPL-ABC12-IS-B738/M-SDFG/S-EHAM0930-N0440F310 DCT PAM DCT-EDDF0100 EDDK-0)" "(CHG-ABC12-EHAM0930-EDDF-0-9/B39M/M-8/IN)" 9 (Ok (InChange 29 35))
    ∷ (asked "(FPL-ABC12-IS-B738/M-SDFG/S-EHAM0930-N0440F310 DCT PAM DCT-EDDF0100 EDDK-0)" "(CHG-ABC12-EHAM0930-EDDF-0-9/B39M/M-8/IN)" 10 (Ok
    (InStrip 21 27)) ∷ []))

-- dates (document 02, request 5): a DLA's goes into the strip, in the key order; a CHG's must be the strip's, where both carry one
abbrev pub OfDates : List Example
OfDates =
    updated "(FPL-ABC12-IS-B738/M-SDFG/S-EHAM0930-N0440F310 DCT PAM DCT-EDDF0100 EDDK-0)" "(DLA-ABC12-EHAM1015-EDDF-DOF/240229)"
    "(FPL-ABC12-IS-B738/M-SDFG/S-EHAM1015-N0440F310 DCT PAM DCT-EDDF0100 EDDK-DOF/240229)"
    ∷ (updated "(FPL-ABC12-IS-B738/M-SDFG/S-EHAM0930-N0440F310 DCT PAM DCT-EDDF0100 EDDK-DEP/X REG/Y)" "(DLA-ABC12-EHAM1015-EDDF-DOF/240229 RMK/LATE)"
    "(FPL-ABC12-IS-B738/M-SDFG/S-EHAM1015-N0440F310 DCT PAM DCT-EDDF0100 EDDK-DEP/X DOF/240229 REG/Y)"
    ∷ (updated "(FPL-ABC12-IS-B738/M-SDFG/S-EHAM0930-N0440F310 DCT PAM DCT-EDDF0100 EDDK-DOF/240229)" "(DLA-ABC12-EHAM1015-EDDF-DOF/240301)"
    "(FPL-ABC12-IS-B738/M-SDFG/S-EHAM1015-N0440F310 DCT PAM DCT-EDDF0100 EDDK-DOF/240301)"
    ∷ (not_updated "(FPL-ABC12-IS-B738/M-SDFG/S-EHAM0930-N0440F310 DCT PAM DCT-EDDF0100 EDDK-DOF/240229)" "(CHG-ABC12-EHAM0930-EDDF-DOF/240301-8/IN)" 12 0 0
    ∷ (updated "(FPL-ABC12-IS-B738/M-SDFG/S-EHAM0930-N0440F310 DCT PAM DCT-EDDF0100 EDDK-DOF/240229)" "(CHG-ABC12-EHAM0930-EDDF-0-8/IN)"
    "(FPL-ABC12-IN-B738/M-SDFG/S-EHAM0930-N0440F310 DCT PAM DCT-EDDF0100 EDDK-DOF/240229)"
    ∷ (asked "(FPL-ABC12-IS-B738/M-SDFG/S-EHAM0930-N0440F310 DCT PAM DCT-EDDF0100 EDDK-DOF/240229)" "(CHG-ABC12-EHAM0930-EDDF-DOF/240301-8/IN)" 8
    (Err (refusal 12 0 0)) ∷ [])))))

abbrev pub examples : List Example
examples = of_fields ++ (of_elapsed ++ (of_messages ++ (of_strips ++ (of_destinations ++ OfDates))))
