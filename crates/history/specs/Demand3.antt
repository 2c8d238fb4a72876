-- The third demand (document 00), of any updater: what an updater is, a strip and the messages offered to it, the causes for which document 01
-- lets a message be refused, and what must hold after any run of offers. Assumes nothing.
use Rattle.std.specs.Prelude.{ℕ, ◌≤◌, ◌<◌, ◌≡◌, Bool, true, false, None, List, [], ◌∷◌, length, take, drop, get_or, Ok, Err}
use Rattle.text.specs.Words.{Word, before}
use Rattle.outer.specs.Outer.{most}
use Rattle.sent.specs.Sent.{contents}
use Rattle.kinds.specs.declared.MessageType.{MessageType}
use Rattle.kinds.specs.declared.MessageType.TheVariants.{Fpl}
use Rattle.kinds.specs.declared.Role.{Role}
use Rattle.kinds.specs.declared.Role.TheVariants.{Files, Changes, Delays, Cancels, Departs, Arrives, Neither}
use Rattle.kinds.specs.Kinds.{role_of, brief7, brief13, brief16, brief18}
use Rattle.message.specs.Answer.{Answer}
use Rattle.message.specs.Reading.{unexplained_in, spelling_of, answer_of}
use Rattle.state.specs.declared.State.{State}
use Rattle.state.specs.declared.State.TheVariants.{Filed, Departed, Arrived, Cancelled}
use Rattle.state.specs.declared.Strip.{Strip}
use Rattle.state.specs.State.{just_filed, sound}
use Rattle.strip.specs.Updating.{Updated, update_of, out_after}
use Rattle.history.specs.Eighteen.{date_told}
use Rattle.history.specs.History.{Part, Plan, plan_in, nine, spelled, Told, given, with_told, Departure, departs, becomes, Left}
use Rattle.history.specs.History.Part.{identification, aerodrome, off_block, destination, date}
use Rattle.outer.specs.Refusal.{refusal}

-- AN UPDATER: its answer to a strip, its record, a message and the output lent, and what it leaves in the output

pub record Updater : Type 0 where
  pub answer : List ℕ → Strip → List ℕ → List ℕ → Updated
  pub output : List ℕ → Strip → List ℕ → List ℕ → List ℕ

-- the one that is proved of the code
abbrev pub updater : Updater
updater = record { answer = λ strip held m out. update_of strip held m (length out); output = λ strip held m out. out_after strip held m out }

-- A STRIP AND ITS RECORD, and an offer: the message's bytes, and the output lent for the new strip

pub record Standing : Type 0 where
  pub strip : List ℕ
  pub held : Strip

pub record Offer : Type 0 where
  pub bytes : List ℕ
  pub lent : List ℕ

-- the message as a log holds it: its type as read, and its contents
abbrev pub told_as : Answer → List ℕ → Told
told_as (Ok (t, n)) m = record { type = t; fields = contents m }
told_as (Err r) m = record { type = Fpl; fields = [] }

abbrev pub told : List ℕ → Told
told m = told_as (answer_of m most) m

abbrev pub put_as : Updated → List ℕ → Standing → Standing
put_as (Ok (held, n)) out b = record { strip = take n out; held = held }
put_as (Err r) out b = b

abbrev pub entered_as : Updated → List ℕ → List Told → List Told
entered_as (Ok (held, n)) m log = told m ∷ log
entered_as (Err r) m log = log

module _ (U : Updater) where
  abbrev pub answered : Standing → Offer → Updated
  answered b o = U.answer b.strip b.held o.bytes o.lent

  abbrev pub left : Standing → Offer → List ℕ
  left b o = U.output b.strip b.held o.bytes o.lent

  -- the strip after an offer: an accepted one's is what was written, as many bytes as the answer says
  abbrev pub offered : Standing → Offer → Standing
  offered b o = put_as (answered b o) (left b o) b

  -- after a run of offers, in the order of their coming; and the accepted messages, latest first, on top of a log
  abbrev pub offered_all : Standing → List Offer → Standing
  offered_all b [] = b
  offered_all b (o ∷ os) = offered_all (offered b o) os

  abbrev pub log_all : Standing → List Told → List Offer → List Told
  log_all b log [] = log
  log_all b log (o ∷ os) = log_all (offered b o) (entered_as (answered b o) o.bytes log) os

-- THE CAUSES, which name nothing of the update

-- 15: the strip is a canonical accepted FPL, and its state holds no time over 1,439 minutes and no aerodrome but of four letters
pub record Proper (strip : List ℕ) (held : Strip) : Type 0 where
  pub long : ℕ
  pub read : answer_of strip most ≡ Ok (Fpl, long)
  pub canonical : spelling_of Fpl strip ≡ strip
  pub held_sound : sound held ≡ true

-- 14: the types that are fit for an update
abbrev pub fit_role : Role → Bool
fit_role Changes = true
fit_role Delays = true
fit_role Cancels = true
fit_role Departs = true
fit_role Arrives = true
fit_role Files = false
fit_role Neither = false

abbrev pub fit_type : MessageType → Bool
fit_type t = fit_role (role_of t)

-- 12: what must equal the strip's; in an ARR without field 16, 17 stands in its place
pub record ForThis (p : Plan) (m : Told) : Type 0 where
  pub same_identification : before 47 (p identification) ≡ before 47 (get_or m.fields brief7 [])
  pub same_aerodrome : p aerodrome ≡ take 4 (get_or m.fields brief13 [])
  pub same_destination : p destination ≡ take 4 (get_or m.fields brief16 [])

-- CHG, CNL and ARR must equal the off-block time too
abbrev pub TimeToo : Role → Type 0 → Type 0
TimeToo Changes P = P
TimeToo Cancels P = P
TimeToo Arrives P = P
TimeToo Delays P = Unit
TimeToo Departs P = Unit
TimeToo Files P = Unit
TimeToo Neither P = Unit

-- CHG, CNL and DEP the date too, where both carry one: each is nothing where there is none
abbrev pub DateToo : Role → Type 0 → Type 0
DateToo Changes P = P
DateToo Cancels P = P
DateToo Departs P = P
DateToo Delays P = Unit
DateToo Arrives P = Unit
DateToo Files P = Unit
DateToo Neither P = Unit

abbrev pub SameDay : Word → Word → Type 0
SameDay v w = (v ≡ [] → ⊥) → (w ≡ [] → ⊥) → v ≡ w

abbrev pub Same : Plan → Told → Type 0
Same p m =
    ForThis p m × TimeToo (role_of m.type) (p off_block ≡ drop 4 (get_or m.fields brief13 []))
    × DateToo (role_of m.type) (SameDay (p date) (date_told (get_or m.fields brief18 [])))

-- 13: allowed when filed; CHG and ARR when departed too
abbrev pub when_departed : Role → Bool
when_departed Changes = true
when_departed Arrives = true
when_departed Delays = false
when_departed Cancels = false
when_departed Departs = false
when_departed Files = false
when_departed Neither = false

abbrev pub allowed : State → MessageType → Bool
allowed Filed t = true
allowed (Departed time) t = when_departed (role_of t)
allowed (Arrived d a time) t = false
allowed Cancelled t = false

-- the plan that stands on a strip, and the plan as a message amends it
abbrev pub plan_on : List ℕ → Plan
plan_on strip = plan_in (contents strip)

abbrev pub amended_on : List ℕ → List ℕ → Plan
amended_on strip m = with_told (plan_on strip) (told m)

-- a message that is read, of a type that is fit, for this flight, allowed by the state: 15, 1 to 9, 14, 12 and 13 are passed
pub record Passes (strip : List ℕ) (held : Strip) (m : List ℕ) : Type 0 where
  pub proper : Proper strip held
  pub type : MessageType
  pub long : ℕ
  pub read : answer_of m most ≡ Ok (type, long)
  pub fit : fit_type type ≡ true
  pub for_this : Same (plan_on strip) (told m)
  pub permits : allowed held.state type ≡ true

-- number, field and place of a refusal
pub data Cause (strip : List ℕ) (held : Strip) (m : List ℕ) (room : ℕ) : ℕ → ℕ → ℕ → Type 0 where
  not_proper : (Proper strip held → ⊥) → Cause strip held m room 15 0 0
  not_read : Proper strip held → {number field place : ℕ} → answer_of m most ≡ Err (refusal number field place) → number ≤ 9
      → Cause strip held m room number field place
  -- an FPL that leaves a field unexplained is of a type that is not fit
  not_fit : Proper strip held → {field place : ℕ} → answer_of m most ≡ Err (refusal 10 field place) → Cause strip held m room 14 0 0
  no_type : Proper strip held → {t : MessageType} {n : ℕ} → answer_of m most ≡ Ok (t, n) → fit_type t ≡ false → Cause strip held m room 14 0 0
  another_flight : Proper strip held → {t : MessageType} {n : ℕ} → answer_of m most ≡ Ok (t, n) → fit_type t ≡ true
      → (Same (plan_on strip) (told m) → ⊥) → Cause strip held m room 12 0 0
  not_allowed : Proper strip held → {t : MessageType} {n : ℕ} → answer_of m most ≡ Ok (t, n) → fit_type t ≡ true
      → Same (plan_on strip) (told m) → allowed held.state t ≡ false → Cause strip held m room 13 0 0
  unexplained : Passes strip held m → (unexplained_in (nine (amended_on strip m)) ≡ 0 → ⊥)
      → Cause strip held m room 10 (unexplained_in (nine (amended_on strip m))) 0
  too_long : Passes strip held m → unexplained_in (nine (amended_on strip m)) ≡ 0 → most < length (spelled (amended_on strip m))
      → Cause strip held m room 16 0 0
  no_room_lem : Passes strip held m → unexplained_in (nine (amended_on strip m)) ≡ 0 → length (spelled (amended_on strip m)) ≤ most
      → room < length (spelled (amended_on strip m)) → Cause strip held m room 11 0 0

-- THE DEMAND: an FPL was filed with these contents, and its strip was offered a run of messages

pub record Demand3 (U : Updater) (filed : List Word) (start : Standing) (run : List Offer) : Type 0 where
  pub plan : Plan
  pub departure : Departure
  pub held : Strip
  -- the strip, byte for byte, and its record
  pub strip_is : (offered_all U start run).strip ≡ spelled plan
  pub held_is : (offered_all U start run).held ≡ held
  -- a canonical accepted FPL and a sound record at every point, so 15 never comes
  pub stays_proper : Proper (spelled plan) held
  -- every part as the last accepted CHG or DLA that set it left it, or as filed; the state and the actual times
  pub parts : (f : Part) → Left (given f) (plan_in filed f) (log_all U start [] run) (plan f)
  pub departed : Left departs None (log_all U start [] run) departure
  pub stated : Left (becomes departure) Filed (log_all U start [] run) held.state
  -- the next message is refused exactly where there is a cause, and then nothing lent is changed
  pub refused_cause : (o : Offer) (number field place : ℕ) → answered U (offered_all U start run) o ≡ Err (refusal number field place)
      → Cause (spelled plan) held o.bytes (length o.lent) number field place
  pub cause_refused : (o : Offer) (number field place : ℕ) → Cause (spelled plan) held o.bytes (length o.lent) number field place
      → answered U (offered_all U start run) o ≡ Err (refusal number field place)
  pub unchanged : (o : Offer) (number field place : ℕ) → answered U (offered_all U start run) o ≡ Err (refusal number field place)
      → left U (offered_all U start run) o ≡ o.lent
  -- of an accepted one the answer gives the new strip's length, and what lies behind it stays
  pub length_is : (o : Offer) (next : Strip) (n : ℕ) → answered U (offered_all U start run) o ≡ Ok (next, n)
      → n ≡ length (offered U (offered_all U start run) o).strip
  pub behind_stays : (o : Offer) (next : Strip) (n : ℕ) → answered U (offered_all U start run) o ≡ Ok (next, n)
      → drop n (left U (offered_all U start run) o) ≡ drop n o.lent

-- an accepted FPL as a strip
abbrev pub filed_as : List ℕ → Standing
filed_as m = record { strip = spelling_of Fpl m; held = just_filed }

abbrev pub Meets : Updater → Type 0
Meets U = (m : List ℕ) (room n : ℕ) → answer_of m room ≡ Ok (Fpl, n) → (run : List Offer) → Demand3 U (contents m) (filed_as m) run
