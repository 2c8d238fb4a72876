-- Document 01's strip, and what messages do to it, computed. Assumes nothing.
use Rattle.std.specs.Prelude.{◌≡◌, refl, true, false, List, ℕ, Some, None}
use Rattle.alphabet.specs.Text.{bytes}
use Rattle.text.specs.Words.{split}
use Rattle.shape.specs.Time.{time_fits}
use Rattle.kinds.specs.declared.MessageType.TheVariants.{Chg, Cnl, Dla, Dep, Arr, Rqp}
use Rattle.kinds.specs.Kinds.{role_of}
use Rattle.state.specs.declared.Event.TheVariants.{Depart, Arrive}
use Rattle.aerodromes.specs.Aerodromes.{four_letters}
use Rattle.aerodromes.specs.Asked.{aerodrome_in}
use Rattle.other.specs.Field18.{has_key, words_under}
use Rattle.forms.specs.Field22.{labels}
use Rattle.plan.specs.Unexplained.{unexplained}
use Rattle.message.specs.Reading.{unexplained_in}
use Rattle.force.specs.InForce.{named_by}
use Rattle.amending.specs.Amended.{amended}
use Rattle.strip.specs.Updating.{event_of, differences, differs}

abbrev filed : List ℕ
filed = bytes "FPL-ABC12-IS-B738/M-SDFG/S-EHAM0930-N0440F310 DCT PAM DCT-EDDF0100 EDDK-0"

-- what a DEP and an ARR say of the state; an RQP is not fit
events : (event_of (role_of Dep) (split 45 (bytes "DEP-ABC12-EHAM0941-EDDF-0")) ≡ Some (Depart (record { 0 = 581 })))
    × (event_of (role_of Arr) (split 45 (bytes "ARR-ABC12-EHAM0930-EDDK1042")) ≡ Some (Arrive (aerodrome_in (bytes "EDDK")) (record { 0 = 642 })))
    × (event_of (role_of Rqp) (split 45 (bytes "RQP-ABC12-EHAM-EDDF-0")) ≡ None)
unfolding time_fits
events = (refl, refl, refl)

-- the code in field 7 plays no part; the time in 13 is compared for a CNL and not for a DLA; an ARR without 16 is compared by its 17
compared : (differs (differences (role_of Cnl) (split 45 filed) (split 45 (bytes "CNL-ABC12/A7777-EHAM0930-EDDF-0"))) ≡ false)
    × (differs (differences (role_of Cnl) (split 45 filed) (split 45 (bytes "CNL-ABC12-EHAM0931-EDDF-0"))) ≡ true)
    × (differs (differences (role_of Dla) (split 45 filed) (split 45 (bytes "DLA-ABC12-EHAM0931-EDDF-0"))) ≡ false)
    × (differs (differences (role_of Dla) (split 45 filed) (split 45 (bytes "DLA-ABC13-EHAM0931-EDDF-0"))) ≡ true)
    × (differs (differences (role_of Arr) (split 45 filed) (split 45 (bytes "ARR-ABC12-EHAM0930-EDDF1042"))) ≡ false)
    × (differs (differences (role_of Arr) (split 45 filed) (split 45 (bytes "ARR-ABC12-EHAM0930-EDDK1042"))) ≡ true)
unfolding words_under
compared = (refl, refl, refl, refl, refl, refl)

abbrev dated : List ℕ
dated = bytes "FPL-ABC12-IS-B738/M-SDFG/S-EHAM0930-N0440F310 DCT PAM DCT-EDDF0100 EDDK-DOF/240229"

-- the dates in 18 are compared for CHG, CNL and DEP, where both carry one, and not for a DLA; a CHG's own 18 counts and not its entry's
days_compared : (differs (differences (role_of Chg) (split 45 dated) (split 45 (bytes "CHG-ABC12-EHAM0930-EDDF-DOF/240301-8/IN"))) ≡ true)
    × (differs (differences (role_of Chg) (split 45 dated) (split 45 (bytes "CHG-ABC12-EHAM0930-EDDF-DOF/240229-8/IN"))) ≡ false)
    × (differs (differences (role_of Chg) (split 45 dated) (split 45 (bytes "CHG-ABC12-EHAM0930-EDDF-0-18/DOF/240301"))) ≡ false)
    × (differs (differences (role_of Chg) (split 45 filed) (split 45 (bytes "CHG-ABC12-EHAM0930-EDDF-DOF/240301-8/IN"))) ≡ false)
    × (differs (differences (role_of Cnl) (split 45 dated) (split 45 (bytes "CNL-ABC12-EHAM0930-EDDF-DOF/240301"))) ≡ true)
    × (differs (differences (role_of Dep) (split 45 dated) (split 45 (bytes "DEP-ABC12-EHAM0941-EDDF-DOF/240301"))) ≡ true)
    × (differs (differences (role_of Dla) (split 45 dated) (split 45 (bytes "DLA-ABC12-EHAM1015-EDDF-DOF/240301"))) ≡ false)
unfolding words_under
days_compared = (refl, refl, refl, refl, refl, refl, refl)

-- after a new destination alone a message must name it
diverted : (differs (differences (role_of Chg) (amended (role_of Chg) filed (bytes "CHG-ABC12-EHAM0930-EDDF-0-16/EDDN"))
    (split 45 (bytes "CHG-ABC12-EHAM0930-EDDN-0-8/IN"))) ≡ false)
    × (differs (differences (role_of Chg) (amended (role_of Chg) filed (bytes "CHG-ABC12-EHAM0930-EDDF-0-16/EDDN"))
    (split 45 (bytes "CHG-ABC12-EHAM0930-EDDF-0-8/IN"))) ≡ true)
unfolding named_by labels four_letters words_under
diverted = (refl, refl)

-- 10 is asked of the amended plan: a new destination ZZZZ must be explained, by the plan's own field 18 or by an entry's
unlisted : (unexplained_in (amended (role_of Chg) filed (bytes "CHG-ABC12-EHAM0930-EDDF-0-16/ZZZZ")) ≡ 16)
    × (unexplained_in (amended (role_of Chg) filed (bytes "CHG-ABC12-EHAM0930-EDDF-0-16/ZZZZ-18/DEST/SOBKIVKA")) ≡ 0)
unfolding named_by labels four_letters unexplained has_key
unlisted = (refl, refl)
