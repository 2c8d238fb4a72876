-- The field in force, as the desk asks for it (document 01, "The strip"): given strip, its record, CHG and a field number, where that content
-- stands, or the refusal. Assumes nothing.
use Rattle.std.specs.Prelude.{ℕ, suc, ◌+◌, ◌≡◌, refl, Bool, true, false, cond, List, [], eqb, length, take, drop, Result, Ok, Err}
use Rattle.std.proofs.Math.Option.{Option, none, some}
use Rattle.alphabet.specs.Text.{bytes}
use Rattle.text.specs.Words.{Word, split, same}
use Rattle.space.specs.Fields.{inner}
use Rattle.space.specs.Hyphens.{behind_hyphen}
use Rattle.kinds.specs.declared.MessageType.{MessageType}
use Rattle.kinds.specs.declared.MessageType.TheVariants.{Chg, Cnl}
use Rattle.kinds.specs.declared.Role.{Role}
use Rattle.kinds.specs.declared.Role.TheVariants.{Files, Changes, Delays, Cancels, Departs, Arrives, Neither}
use Rattle.kinds.specs.Kinds.{role_of, plan7, plan8, plan9, plan10, plan13, plan15, plan16, plan18}
use Rattle.aerodromes.specs.Aerodromes.{four_letters}
use Rattle.other.specs.Field18.{words_under}
use Rattle.forms.specs.Field22.{labels}
use Rattle.message.specs.Reading.{spelling_of}
use Rattle.state.specs.declared.Strip.{Strip}
use Rattle.message.specs.Answer.{Answer}
use Rattle.opening.specs.Opening.{opening_of}
use Rattle.force.specs.InForce.{in_force, named_by, named_at, bare, place_of}
use Rattle.strip.specs.Updating.{differences, differs}
use Rattle.outer.specs.declared.Refusal.{Refusal}
use Rattle.asked.specs.declared.Place.{Place}
use Rattle.outer.specs.Refusal.{refusal}
use Rattle.asked.specs.declared.Place.TheVariants.{InChange, InStrip}

-- THE NUMBER ASKED: the eight that an entry may name have as ranks their places in an FPL; any other has none

abbrev pub rank_of : ℕ → ℕ
rank_of n =
    cond (eqb n 7) plan7
    (cond (eqb n 8) plan8
    (cond (eqb n 9) plan9
    (cond (eqb n 10) plan10
    (cond (eqb n 13) plan13
    (cond (eqb n 15) plan15
    (cond (eqb n 16) plan16
    (cond (eqb n 18) plan18 0)))))))

-- where it stands, or the refusal
abbrev pub Asked : Type 0
Asked = Result Place Refusal

-- WHERE IT STANDS: a content in force begins at this place of its text, and a text begins one byte behind its message

abbrev pub stands_in : Option ℕ → List ℕ → List ℕ → ℕ → Asked
stands_in (some at) plan said k = Ok (InChange (suc at) (suc at + length (in_force plan said k)))
stands_in none plan said k = Ok (InStrip (suc (place_of plan k)) (suc (place_of plan k) + length (in_force plan said k)))

abbrev pub stands_as : List ℕ → List ℕ → ℕ → Asked
stands_as plan said k = stands_in (named_at said k) plan said k

-- THE ANSWER: 15, 1 to 9 and 14 as the strip is opened, 14, 17, 12, 17 of a destination alone, 8

-- 8, with the number asked as its field
abbrev pub field_as : List ℕ → List ℕ → ℕ → Asked
field_as plan said number = cond (eqb (rank_of number) 0) (Err (refusal 8 number 0)) (stands_as plan said (rank_of number))

-- 17: field 16, where the CHG has a destination alone for it, so that the field in force lies in neither message whole
abbrev pub is_bare : ℕ → Option Word → Bool
is_bare k none = false
is_bare k (some c) = bare k c

abbrev pub bare_as : List ℕ → List ℕ → ℕ → Asked
bare_as plan said number = cond (is_bare (rank_of number) (named_by said (rank_of number))) (Err (refusal 17 0 0)) (field_as plan said number)

-- 12: the message is for another flight
abbrev pub flight_as : List ℕ → List ℕ → ℕ → Asked
flight_as plan said number = cond (differs (differences Changes (split 45 plan) (split 45 said))) (Err (refusal 12 0 0)) (bare_as plan said number)

abbrev pub changes : Role → Bool
changes Changes = true
changes Files = false
changes Delays = false
changes Cancels = false
changes Departs = false
changes Arrives = false
changes Neither = false

abbrev pub is_change : MessageType → Bool
is_change t = changes (role_of t)

-- 14: it is no CHG; 17: it is not its own spelling
unfoldable pub type_as : MessageType → List ℕ → List ℕ → List ℕ → ℕ → Asked
type_as t spelled strip chg number =
    cond (is_change t)
    (cond (same spelled chg) (flight_as (inner strip) (inner chg) number) (Err (refusal 17 0 0)))
    (Err (refusal 14 0 0))

abbrev pub opened_as : Answer → List ℕ → List ℕ → ℕ → Asked
opened_as (Err r) strip chg number = Err r
opened_as (Ok (t, n)) strip chg number = type_as t (spelling_of t chg) strip chg number

unfoldable pub asked_of : List ℕ → Strip → List ℕ → ℕ → Asked
asked_of strip held chg number = opened_as (opening_of strip held chg) strip chg number

-- THE PART SHOWN

-- its bytes: the content in force, and none of a refusal
abbrev pub shown : Asked → List ℕ → List ℕ → ℕ → Word
shown (Ok (InStrip from to)) strip chg number = in_force (inner strip) (inner chg) (rank_of number)
shown (Ok (InChange from to)) strip chg number = in_force (inner strip) (inner chg) (rank_of number)
shown (Err r) strip chg number = []

-- its place: in which of the two slices, and how far from its start; a refusal at the strip's start
abbrev pub StandsAt : {A : Type 0} → Asked → (strip-block : A) (strip-place : ℕ) (chg-block : A) (chg-place : ℕ) (block : A) (place : ℕ) → Type 0
StandsAt (Ok (InStrip from to)) sb sp cb cp block place = (block ≡ sb) × (place ≡ from + sp)
StandsAt (Ok (InChange from to)) sb sp cb cp block place = (block ≡ cb) × (place ≡ from + cp)
StandsAt (Err r) sb sp cb cp block place = (block ≡ sb) × (place ≡ sp)

-- EXAMPLES, computed

abbrev plan : List ℕ
plan = bytes "FPL-ABC12-IS-B738/M-SDFG/S-EHAM0930-N0440F310 DCT PAM DCT-EDDF0100 EDDK-0"

abbrev said : List ℕ
said = bytes "CHG-ABC12-EHAM0930-EDDF-0-9/B39M/M-8/IN"

-- field 9 stands in the CHG, 10 in the strip, 3 and 22 cannot be asked for
asked : (flight_as plan said 9 ≡ Ok (InChange 29 35)) × (flight_as plan said 10 ≡ Ok (InStrip 21 27))
    × (flight_as plan said 3 ≡ Err (refusal 8 3 0)) × (flight_as plan said 22 ≡ Err (refusal 8 22 0))
unfolding named_at named_by labels behind_hyphen words_under
asked = (refl, refl, refl, refl)

parts : (take 6 (drop 29 (bytes "(CHG-ABC12-EHAM0930-EDDF-0-9/B39M/M-8/IN)")) ≡ bytes "B39M/M")
    × (take 6 (drop 21 (bytes "(FPL-ABC12-IS-B738/M-SDFG/S-EHAM0930-N0440F310 DCT PAM DCT-EDDF0100 EDDK-0)")) ≡ bytes "SDFG/S")
parts = (refl, refl)

-- under a destination alone 16 is refused, and every other field shown as before; a whole entry shows it in the CHG, and none in the strip
abbrev diverted : List ℕ
diverted = bytes "CHG-ABC12-EHAM0930-EDDF-0-16/EDDN-8/IN"

destinations : (flight_as plan diverted 16 ≡ Err (refusal 17 0 0)) × (flight_as plan diverted 8 ≡ Ok (InChange 37 39))
    × (flight_as plan diverted 9 ≡ Ok (InStrip 14 20))
    × (flight_as plan diverted 17 ≡ Err (refusal 8 17 0))
    × (flight_as plan (bytes "CHG-ABC12-EHAM0930-EDDF-0-16/EDDN0100") 16 ≡ Ok (InChange 30 38)) × (flight_as plan said 16 ≡ Ok (InStrip 59 72))
unfolding named_at named_by labels behind_hyphen four_letters words_under
destinations = (refl, refl, refl, refl, refl, refl)

-- another flight; the number asked is looked at last
other : (flight_as plan (bytes "CHG-ABC13-EHAM0930-EDDF-0-9/B39M/M") 9 ≡ Err (refusal 12 0 0))
    × (flight_as plan (bytes "CHG-ABC13-EHAM0930-EDDF-0-9/B39M/M") 3 ≡ Err (refusal 12 0 0))
    × (flight_as plan (bytes "CHG-ABC13-EHAM0930-EDDF-0-16/EDDN") 16 ≡ Err (refusal 12 0 0))
unfolding words_under
other = (refl, refl, refl)

-- and so is a flight of another day
abbrev dated : List ℕ
dated = bytes "FPL-ABC12-IS-B738/M-SDFG/S-EHAM0930-N0440F310 DCT PAM DCT-EDDF0100 EDDK-DOF/240229"

other_day_lem : (flight_as dated (bytes "CHG-ABC12-EHAM0930-EDDF-DOF/240301-9/B39M/M") 9 ≡ Err (refusal 12 0 0))
    × (flight_as dated (bytes "CHG-ABC12-EHAM0930-EDDF-DOF/240229-9/B39M/M") 9 ≡ Ok (InChange 38 44))
    × (flight_as dated (bytes "CHG-ABC12-EHAM0930-EDDF-0-18/DOF/240301") 18 ≡ Ok (InChange 30 40))
unfolding named_at named_by labels behind_hyphen words_under
other_day_lem = (refl, refl, refl)

-- not a CHG; not its own spelling
unfit : (type_as Cnl (bytes "(CNL)") (bytes "(FPL)") (bytes "(CNL)") 9 ≡ Err (refusal 14 0 0))
    × (type_as Chg (bytes "(CHG)") (bytes "(FPL)") (bytes "( CHG)") 9 ≡ Err (refusal 17 0 0))
unfolding type_as
unfit = (refl, refl)
