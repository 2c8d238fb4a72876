-- An update of the strip (document 01, "The strip"): the answer, the strip's record and every byte of the output, from the strip, its record, the
-- message and the room lent. A plan and what a message says are given by their texts, which stand between the parentheses. Assumes nothing.
use Rattle.std.specs.Prelude.{ℕ, ◌-◌, Bool, true, false, ◌&&◌, ◌||◌, not, cond, List, [], eqb, ltb, length, take, drop, get_or}
use Rattle.std.specs.Prelude.{Option, Some, None, Result, Ok, Err}
use Rattle.std.specs.Option.{unwrap_or}
use Rattle.text.specs.Words.{Word, split, before, null, same}
use Rattle.text.specs.Lent.{front}
use Rattle.shape.specs.declared.Clock.{Clock}
use Rattle.aerodromes.specs.Asked.{clock_at, aerodrome_in}
use Rattle.dates.specs.Dates.{date_in}
use Rattle.space.specs.Fields.{inner}
use Rattle.outer.specs.Outer.{most}
use Rattle.sent.specs.Sent.{message_of}
use Rattle.kinds.specs.declared.MessageType.{MessageType}
use Rattle.kinds.specs.declared.MessageType.TheVariants.{Fpl}
use Rattle.kinds.specs.declared.Role.{Role}
use Rattle.kinds.specs.declared.Role.TheVariants.{Files, Changes, Delays, Cancels, Departs, Arrives, Neither}
use Rattle.kinds.specs.Kinds.{role_of, plan7, plan13, plan16, plan18, brief7, brief13, brief16, brief18}
use Rattle.message.specs.Answer.{Answer}
use Rattle.message.specs.Reading.{unexplained_in, answer_of}
use Rattle.state.specs.declared.Strip.{Strip}
use Rattle.state.specs.declared.Event.{Event}
use Rattle.state.specs.declared.Event.TheVariants.{Change, Delay, Cancel, Depart, Arrive}
use Rattle.state.specs.State.{allowed_in, next_of}
use Rattle.opening.specs.Opening.{text_said, opening_of}
use Rattle.amending.specs.Amended.{amended, new_strip}
use Rattle.strip.specs.declared.Differences.{Differences}
use Rattle.outer.specs.declared.Refusal.{Refusal}
use Rattle.outer.specs.Refusal.{refusal}

-- WHAT A MESSAGE SAYS OF THE STATE, from its contents

abbrev pub time_of : Option Clock → Clock
time_of r = unwrap_or r (record { 0 = 0 })

-- field 17 is an ARR's last
abbrev pub arrival : List Word → Word
arrival cs = get_or cs (length cs - 1) []

-- a delay, a departure at the time of its field 13, an arrival as in its field 17, and so on; the other types are not fit
abbrev pub event_of : Role → List Word → Option Event
event_of Changes cs = Some Change
event_of Delays cs = Some Delay
event_of Cancels cs = Some Cancel
event_of Departs cs = Some (Depart (time_of (clock_at (get_or cs brief13 []))))
event_of Arrives cs = Some (Arrive (aerodrome_in (arrival cs)) (time_of (clock_at (arrival cs))))
event_of Files cs = None
event_of Neither cs = None

-- MUST EQUAL THE STRIP'S: identification, 13 aerodrome, destination; for CHG, CNL and ARR the time in 13 too; for CHG, CNL and DEP the date in 18, where
-- both carry one

abbrev pub compares_time : Role → Bool
compares_time Changes = true
compares_time Cancels = true
compares_time Arrives = true
compares_time Delays = false
compares_time Departs = false
compares_time Files = false
compares_time Neither = false

abbrev pub compares_date : Role → Bool
compares_date Changes = true
compares_date Cancels = true
compares_date Departs = true
compares_date Delays = false
compares_date Arrives = false
compares_date Files = false
compares_date Neither = false

-- two dates, each nothing where there is none
abbrev pub other_day : Word → Word → Bool
other_day a b = not (null a) && (not (null b) && not (same a b))

-- between a plan's contents and a message's; in an ARR without field 16, 17 stands in its place
abbrev pub differences : Role → List Word → List Word → Differences
differences role ps cs =
    record {
      identification = not (same (before 47 (get_or ps plan7 [])) (before 47 (get_or cs brief7 [])));
      aerodrome = not (same (take 4 (get_or ps plan13 [])) (take 4 (get_or cs brief13 [])));
      time = compares_time role && not (same (drop 4 (get_or ps plan13 [])) (drop 4 (get_or cs brief13 [])));
      destination = not (same (take 4 (get_or ps plan16 [])) (take 4 (get_or cs brief16 [])));
      date = compares_date role && other_day (date_in (get_or ps plan18 [])) (date_in (get_or cs brief18 []));
    }

abbrev pub differs : Differences → Bool
differs d = d.identification || (d.aerodrome || (d.time || (d.destination || d.date)))

-- EFFECT, on the plan: the amended plan (amending: specs/Amended.antt)

-- THE ANSWER: 15, 1 to 9 and 14 as the strip is opened, 14, 12, 13, then for the amended plan 10, 16, 11

-- the strip's new record and the length of its new spelling, or the refusal
abbrev pub Updated : Type 0
Updated = Result (Strip × ℕ) Refusal

abbrev pub room_as : List ℕ → Strip → ℕ → Updated
room_as new next room =
    cond (ltb most (length new)) (Err (refusal 16 0 0))
    (cond (ltb room (length new)) (Err (refusal 11 0 0))
    (Ok (next, length new)))

abbrev pub amended_as : List Word → Strip → ℕ → Updated
amended_as cs next room = cond (eqb (unexplained_in cs) 0) (room_as (message_of cs) next room) (Err (refusal 10 (unexplained_in cs) 0))

abbrev pub event_as : Option Event → Role → List ℕ → Strip → List ℕ → ℕ → Updated
event_as None role plan held said room = Err (refusal 14 0 0)
event_as (Some e) role plan held said room =
    cond (differs (differences role (split 45 plan) (split 45 said))) (Err (refusal 12 0 0))
    (cond (allowed_in held e) (amended_as (amended role plan said) (next_of held e) room)
    (Err (refusal 13 0 0)))

unfoldable pub offered_as : Role → List ℕ → Strip → List ℕ → ℕ → Updated
offered_as role plan held said room = event_as (event_of role (split 45 said)) role plan held said room

abbrev pub opened_as : Answer → List ℕ → Strip → List ℕ → ℕ → Updated
opened_as (Err r) strip held m room = Err r
opened_as (Ok (t, n)) strip held m room = offered_as (role_of t) (inner strip) held (text_said t m) room

unfoldable pub update_of : List ℕ → Strip → List ℕ → ℕ → Updated
update_of strip held m room = opened_as (opening_of strip held m) strip held m room

-- THE OUTPUT: an accepted message writes the new strip at its front, a refusal leaves it

abbrev pub type_read : Answer → MessageType
type_read (Ok (t, n)) = t
type_read (Err r) = Fpl

-- the strip after a message that was read as a type
abbrev pub strip_after : MessageType → List ℕ → List ℕ → List ℕ
strip_after t strip m = new_strip (role_of t) (inner strip) (text_said t m)

abbrev pub written_as : Updated → List ℕ → List ℕ → List ℕ → List ℕ
written_as (Ok (held, n)) strip m out = front (strip_after (type_read (answer_of m most)) strip m) out
written_as (Err r) strip m out = out

unfoldable pub out_after : List ℕ → Strip → List ℕ → List ℕ → List ℕ
out_after strip held m out = written_as (update_of strip held m (length out)) strip m out
