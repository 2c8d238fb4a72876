-- The history of a strip (document 00, the third demand): each part of the plan as the last accepted message that set it left it, or as filed;
-- the state and the actual times by the accepted messages. It names nothing of the update. Assumes nothing.
use Rattle.std.specs.Prelude.{ℕ, ◌≡◌, refl, Bool, false, cond, Option as Optional, None, Some, eqb, length, take, drop, get_or}
use mathlib.Core.List.{List, [], ◌∷◌, ◌++◌, Memᴰ}
use Rattle.std.proofs.Math.Option
use Rattle.std.proofs.Math.Option.{Option, none, some}
use Rattle.alphabet.specs.Text.{bytes}
use Rattle.text.specs.Words.{Word, split, before, behind, null, same}
use Rattle.sent.specs.Sent.{message_of}
use Rattle.shape.specs.declared.Clock.{Clock}
use Rattle.aerodromes.specs.Asked.{aerodrome_in}
use Rattle.aerodromes.specs.Field13.{record13}
use Rattle.aerodromes.specs.Field17.{record17}
use Rattle.kinds.specs.declared.MessageType.{MessageType}
use Rattle.kinds.specs.declared.MessageType.TheVariants.{Chg, Dla}
use Rattle.kinds.specs.declared.Role.{Role}
use Rattle.kinds.specs.declared.Role.TheVariants.{Files, Changes, Delays, Cancels, Departs, Arrives, Neither}
use Rattle.kinds.specs.Kinds.{role_of, plan3, plan7, plan8, plan9, plan10, plan13, plan15, plan16, plan18, first_entry, brief13, brief16, brief17, brief18}
use Rattle.other.specs.Rules.{base}
use Rattle.state.specs.declared.State.{State}
use Rattle.state.specs.declared.State.TheVariants.{Filed, Departed, Arrived, Cancelled}
use Rattle.state.specs.declared.Strip.{Strip}
use Rattle.history.specs.Eighteen.{date_told, other_items, eighteen}

-- THE PARTS OF A PLAN that a message can set by themselves: its fields; of field 13 the aerodrome and the off-block time; of field 16 the destination and
-- what stands behind it, elapsed time and alternates; of field 18 the date and all other items

pub data Part : Type 0 where
  heading identification rules aircraft equipment aerodrome off_block route destination elapsed_and_alternates date other : Part

abbrev pub Plan : Type 0
Plan = Part → List ℕ

-- the number of the field that a part stands in
abbrev pub number_for : Part → Word
number_for heading = bytes "3"
number_for identification = bytes "7"
number_for rules = bytes "8"
number_for aircraft = bytes "9"
number_for equipment = bytes "10"
number_for aerodrome = bytes "13"
number_for off_block = bytes "13"
number_for route = bytes "15"
number_for destination = bytes "16"
number_for elapsed_and_alternates = bytes "16"
number_for date = bytes "18"
number_for other = bytes "18"

-- which of an FPL's nine fields that is, counted from 0
abbrev pub place_for : Part → ℕ
place_for heading = plan3
place_for identification = plan7
place_for rules = plan8
place_for aircraft = plan9
place_for equipment = plan10
place_for aerodrome = plan13
place_for off_block = plan13
place_for route = plan15
place_for destination = plan16
place_for elapsed_and_alternates = plan16
place_for date = plan18
place_for other = plan18

-- the part's bytes of that field: fields 13 and 16 begin with an aerodrome, which is four letters
abbrev pub within : Part → Word → List ℕ
within heading c = c
within identification c = c
within rules c = c
within aircraft c = c
within equipment c = c
within aerodrome c = take 4 c
within off_block c = drop 4 c
within route c = c
within destination c = take 4 c
within elapsed_and_alternates c = drop 4 c
within date c = date_told c
within other c = other_items c

-- the plan of an FPL's nine contents
abbrev pub plan_in : List Word → Plan
plan_in cs = λ f. within f (get_or cs (place_for f) [])

-- the nine contents of a plan, and its spelling
abbrev pub nine : Plan → List Word
nine p =
    p heading ∷ p identification ∷ p rules ∷ p aircraft ∷ p equipment ∷ (p aerodrome ++ p off_block) ∷ p route
    ∷ (p destination ++ p elapsed_and_alternates) ∷ eighteen (p date) (p other) ∷ []

abbrev pub spelled : Plan → List ℕ
spelled p = message_of (nine p)

-- A MESSAGE, as a log holds it: its type and its contents

pub record Told : Type 0 where
  pub type : MessageType
  pub fields : List Word

-- WHAT IT SAYS OF A PART: a CHG what its entry of the part's field holds, a DLA the off-block time and the date that it carries, the others nothing

-- the content behind the oblique of the first entry that has this number
abbrev pub entry_of : Word → List Word → Option Word
entry_of number [] = none
entry_of number (e ∷ es) = cond (same (before 47 e) number) (some (behind 47 e)) (entry_of number es)

-- an entry of field 16 that is a destination alone, four bytes, sets the destination and nothing else
abbrev pub silent : Part → Word → Bool
silent heading c = false
silent identification c = false
silent rules c = false
silent aircraft c = false
silent equipment c = false
silent aerodrome c = false
silent off_block c = false
silent route c = false
silent destination c = false
silent elapsed_and_alternates c = eqb (length c) 4
silent date c = false
silent other c = false

-- what the content of an entry, if there is one, says of a part
abbrev pub entered : Part → Option Word → Option (List ℕ)
entered f none = none
entered f (some c) = cond (silent f c) none (some (within f c))

-- the entries stand behind a CHG's fields 3, 7, 13, 16 and 18, each with its number and an oblique in front
abbrev pub named : Part → List Word → Option (List ℕ)
named f es = entered f (entry_of (number_for f) es)

-- the date of a DLA's own field 18, if it carries one
abbrev pub carried : Word → Option (List ℕ)
carried d = cond (null d) none (some d)

abbrev pub delayed : Part → List Word → Option (List ℕ)
delayed heading cs = none
delayed identification cs = none
delayed rules cs = none
delayed aircraft cs = none
delayed equipment cs = none
delayed aerodrome cs = none
delayed off_block cs = some (drop 4 (get_or cs brief13 []))
delayed route cs = none
delayed destination cs = none
delayed elapsed_and_alternates cs = none
delayed date cs = carried (date_told (get_or cs brief18 []))
delayed other cs = none

abbrev pub given_by : Role → List Word → Part → Option (List ℕ)
given_by Changes cs f = named f (drop first_entry cs)
given_by Delays cs f = delayed f cs
given_by Cancels cs f = none
given_by Departs cs f = none
given_by Arrives cs f = none
given_by Files cs f = none
given_by Neither cs f = none

abbrev pub given : Part → Told → Option (List ℕ)
given f m = given_by (role_of m.type) m.fields f

-- the plan with what a message says put in
abbrev pub with_told : Plan → Told → Plan
with_told p m = λ f. Option.get_or (given f m) (p f)

-- WHAT IT SAYS OF THE STATE: a DEP the departure time, CNL, DEP and ARR where the flight is

-- field 17 is the last of an ARR's four or five: of four it stands in the place of 16
abbrev pub landing : List Word → Word
landing cs = cond (eqb (length cs) 4) (get_or cs brief16 []) (get_or cs brief17 [])

-- the departure time of a state, if known
abbrev pub Departure : Type 0
Departure = Optional Clock

abbrev pub departs_by : Role → List Word → Option Departure
departs_by Departs cs = some (Some (record13 (get_or cs brief13 [])).time)
departs_by Changes cs = none
departs_by Delays cs = none
departs_by Cancels cs = none
departs_by Arrives cs = none
departs_by Files cs = none
departs_by Neither cs = none

abbrev pub departs : Told → Option Departure
departs m = departs_by (role_of m.type) m.fields

abbrev pub becomes_by : Departure → Role → List Word → Option State
becomes_by d Cancels cs = some Cancelled
becomes_by d Departs cs = some (Departed (record13 (get_or cs brief13 [])).time)
becomes_by d Arrives cs = some (Arrived d (aerodrome_in (landing cs)) (record17 (landing cs)).time)
becomes_by d Changes cs = none
becomes_by d Delays cs = none
becomes_by d Files cs = none
becomes_by d Neither cs = none

abbrev pub becomes : Departure → Told → Option State
becomes d m = becomes_by d (role_of m.type) m.fields

-- THE LAST THAT SAID SOMETHING. A log holds accepted messages, latest first.

-- of the log, the last message that says something says v; or none does and v is as at first
pub data Left {A : Type 0} (says : Told → Option A) (first : A) : List Told → A → Type 0 where
  as_filed : {log : List Told} → ((m : Told) → Memᴰ m log → says m ≡ none) → Left says first log first
  by : (later : List Told) (m : Told) (earlier : List Told) {v : A}
      → ((l : Told) → Memᴰ l later → says l ≡ none) → says m ≡ some v → Left says first (later ++ m ∷ earlier) v

-- FIELD 18, whole (document 02, request 5): as the last accepted CHG naming it or DLA carrying a date left it

-- the content that a CHG has for it
abbrev pub names_by : Role → List Word → Option Word
names_by Changes cs = entry_of (bytes "18") (drop first_entry cs)
names_by Delays cs = none
names_by Cancels cs = none
names_by Departs cs = none
names_by Arrives cs = none
names_by Files cs = none
names_by Neither cs = none

abbrev pub names18 : Told → Option Word
names18 m = names_by (role_of m.type) m.fields

-- the date that a DLA carries
abbrev pub carries_by : Role → List Word → Option Word
carries_by Delays cs = carried (date_told (get_or cs brief18 []))
carries_by Changes cs = none
carries_by Cancels cs = none
carries_by Departs cs = none
carries_by Arrives cs = none
carries_by Files cs = none
carries_by Neither cs = none

abbrev pub carries_date : Told → Option Word
carries_date m = carries_by (role_of m.type) m.fields

abbrev pub Leaves18 : Told → Type 0
Leaves18 m = (names18 m ≡ none) × (carries_date m ≡ none)

-- no accepted message set it, and it is as filed; or the last that did was a CHG, and it is the content of its entry; or it was a DLA, and it is as it
-- stood before, with that date
pub data Left18 (filed : Word) : List Told → Word → Type 0 where
  never_set : {log : List Told} → ((m : Told) → Memᴰ m log → Leaves18 m) → Left18 filed log filed
  by_change : (later : List Told) (m : Told) (earlier : List Told) {c : Word}
      → ((l : Told) → Memᴰ l later → Leaves18 l) → names18 m ≡ some c → Left18 filed (later ++ m ∷ earlier) c
  by_delay : (later : List Told) (m : Told) (earlier : List Told) {d w : Word}
      → ((l : Told) → Memᴰ l later → Leaves18 l) → carries_date m ≡ some d → Left18 filed earlier w
      → Left18 filed (later ++ m ∷ earlier) (eighteen d (other_items w))

-- `Left`, found
abbrev pub latest : {A : Type 0} → (Told → Option A) → A → List Told → A
latest says first [] = first
latest says first (m ∷ earlier) = Option.get_or (says m) (latest says first earlier)

-- what stands by a log: the plan, the departure time, and the state, in which an ARR has the time of the last accepted DEP
abbrev pub plan_by : Plan → List Told → Plan
plan_by filed log = λ f. latest (given f) (filed f) log

abbrev pub departure_by : List Told → Departure
departure_by log = latest departs None log

abbrev pub state_by : List Told → State
state_by log = latest (becomes (departure_by log)) Filed log

-- the record that goes with the strip
abbrev pub held_by : List Told → Strip
held_by log = record { state = state_by log }

-- EXAMPLES, computed

abbrev filed : List Word
filed = split 45 (bytes "FPL-ABC12-IS-B738/M-SDFG/S-EHAM0930-N0440F310 DCT PAM DCT-EDDF0100 EDDK-0")

abbrev changed : Told
changed = record { type = Chg; fields = split 45 (bytes "CHG-ABC12-EHAM0930-EDDF-0-9/B39M/M-8/IN") }

abbrev diverted : Told
diverted = record { type = Chg; fields = split 45 (bytes "CHG-ABC12-EHAM0930-EDDF-0-16/EDDN") }

abbrev redirected : Told
redirected = record { type = Chg; fields = split 45 (bytes "CHG-ABC12-EHAM0930-EDDF-0-16/EDDM0110") }

abbrev postponed : Told
postponed = record { type = Dla; fields = split 45 (bytes "DLA-ABC12-EHAM1015-EDDF-0") }

as_spelled : nine (plan_in filed) ≡ filed
unfolding date_told other_items eighteen
as_spelled = refl

after_both : spelled (plan_by (plan_in filed) (postponed ∷ changed ∷ []))
    ≡ bytes "(FPL-ABC12-IN-B39M/M-SDFG/S-EHAM1015-N0440F310 DCT PAM DCT-EDDF0100 EDDK-0)"
unfolding date_told other_items eighteen
after_both = refl

-- a destination alone says nothing of elapsed time and alternates; a whole field 16 says all of it
of_sixteen : (given destination diverted ≡ some (bytes "EDDN")) × (given elapsed_and_alternates diverted ≡ none)
    × (given destination redirected ≡ some (bytes "EDDM")) × (given elapsed_and_alternates redirected ≡ some (bytes "0110"))
of_sixteen = (refl, refl, refl, refl)

after_diverted : (spelled (plan_by (plan_in filed) (diverted ∷ [])) ≡ bytes "(FPL-ABC12-IS-B738/M-SDFG/S-EHAM0930-N0440F310 DCT PAM DCT-EDDN0100 EDDK-0)")
    × (spelled (plan_by (plan_in filed) (redirected ∷ [])) ≡ bytes "(FPL-ABC12-IS-B738/M-SDFG/S-EHAM0930-N0440F310 DCT PAM DCT-EDDM0110-0)")
    × (spelled (plan_by (plan_in filed) (diverted ∷ redirected ∷ [])) ≡ bytes "(FPL-ABC12-IS-B738/M-SDFG/S-EHAM0930-N0440F310 DCT PAM DCT-EDDN0110-0)")
unfolding date_told other_items eighteen
after_diverted = (refl, refl, refl)

-- a DLA says the date that it carries and nothing of the other items; a CHG's entry of 18 says both
abbrev redated : Told
redated = record { type = Dla; fields = split 45 (bytes "DLA-ABC12-EHAM1015-EDDF-DOF/240229 RMK/LATE") }

abbrev remarked : Told
remarked = record { type = Chg; fields = split 45 (bytes "CHG-ABC12-EHAM0930-EDDF-0-18/DEP/X REG/Y") }

of_eighteen : (given date redated ≡ some (bytes "240229")) × (given other redated ≡ none) × (given date postponed ≡ none)
    × (given date remarked ≡ some []) × (given other remarked ≡ some (bytes "DEP/X REG/Y"))
unfolding date_told other_items
of_eighteen = (refl, refl, refl, refl, refl)

after_redated : (spelled (plan_by (plan_in filed) (redated ∷ []))
    ≡ bytes "(FPL-ABC12-IS-B738/M-SDFG/S-EHAM1015-N0440F310 DCT PAM DCT-EDDF0100 EDDK-DOF/240229)")
    × (spelled (plan_by (plan_in filed) (redated ∷ remarked ∷ []))
    ≡ bytes "(FPL-ABC12-IS-B738/M-SDFG/S-EHAM1015-N0440F310 DCT PAM DCT-EDDF0100 EDDK-DEP/X DOF/240229 REG/Y)")
    × (spelled (plan_by (plan_in filed) (remarked ∷ redated ∷ []))
    ≡ bytes "(FPL-ABC12-IS-B738/M-SDFG/S-EHAM1015-N0440F310 DCT PAM DCT-EDDF0100 EDDK-DEP/X REG/Y)")
unfolding date_told other_items eighteen base
after_redated = (refl, refl, refl)
