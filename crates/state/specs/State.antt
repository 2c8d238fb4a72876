-- The state of a flight (document 01, "The strip"): which messages it allows, where an accepted one leaves it, and which states a strip may be
-- handed with. What is said of a strip is said of its record whole. Assumes nothing.
use Rattle.std.specs.Prelude.{◌≡◌, refl, Bool, true, false, ◌&&◌, leb, Option, None, Some}
use Rattle.alphabet.specs.Text.{bytes}
use Rattle.shape.specs.declared.Clock.{Clock}
use Rattle.aerodromes.specs.declared.Aerodrome.{Aerodrome}
use Rattle.aerodromes.specs.Asked.{aerodrome_in, is_letters}
use Rattle.state.specs.declared.State.{State}
use Rattle.state.specs.declared.State.TheVariants.{Filed, Departed, Arrived, Cancelled}
use Rattle.state.specs.declared.Strip.{Strip}
use Rattle.state.specs.declared.Event.{Event}
use Rattle.state.specs.declared.Event.TheVariants.{Change, Delay, Cancel, Depart, Arrive}

-- ALLOWED WHEN: CHG and ARR when filed or departed; DLA, CNL and DEP when filed; nothing when arrived or cancelled

abbrev pub allowed_departed : Event → Bool
allowed_departed Change = true
allowed_departed Delay = false
allowed_departed Cancel = false
allowed_departed (Depart t) = false
allowed_departed (Arrive a t) = true

abbrev pub permits : State → Event → Bool
permits Filed e = true
permits (Departed t) e = allowed_departed e
permits (Arrived d a t) e = false
permits Cancelled e = false

abbrev pub allowed_in : Strip → Event → Bool
allowed_in held e = permits held.state e

-- EFFECT, on the state

-- the departure time, if known
abbrev pub departure_of : State → Option Clock
departure_of Filed = None
departure_of (Departed t) = Some t
departure_of (Arrived d a t) = d
departure_of Cancelled = None

-- where an accepted message leaves the state: CHG and DLA keep it, an ARR arrives with the departure time if known
abbrev pub next_state : State → Event → State
next_state s Change = s
next_state s Delay = s
next_state s Cancel = Cancelled
next_state s (Depart t) = Departed t
next_state s (Arrive a t) = Arrived (departure_of s) a t

-- what a strip holds beside its spelling: as it is filed, and after an accepted message
abbrev pub just_filed : Strip
just_filed = record { state = Filed }

abbrev pub next_of : Strip → Event → Strip
next_of held e = record { state = next_state held.state e }

-- NUMBER 15, of the state: no time over 1,439 minutes, no aerodrome but of four letters

abbrev pub sound_clock : Clock → Bool
sound_clock t = leb t.0 1439

abbrev pub sound_departure : Option Clock → Bool
sound_departure (Some t) = sound_clock t
sound_departure None = true

abbrev pub sound_landing : Aerodrome → Clock → Bool
sound_landing a t = is_letters a && sound_clock t

abbrev pub sound_arrival : Option Clock → Aerodrome → Clock → Bool
sound_arrival d a t = sound_departure d && sound_landing a t

abbrev pub sound_state : State → Bool
sound_state Filed = true
sound_state (Departed t) = sound_clock t
sound_state (Arrived d a t) = sound_arrival d a t
sound_state Cancelled = true

abbrev pub sound : Strip → Bool
sound held = sound_state held.state

-- what a message brings into the state is as a state may hold it
abbrev pub sound_event : Event → Bool
sound_event Change = true
sound_event Delay = true
sound_event Cancel = true
sound_event (Depart t) = sound_clock t
sound_event (Arrive a t) = sound_landing a t

-- EXAMPLES, computed: off at 0935, landed in Frankfurt at 1042

abbrev off : Clock
off = record { 0 = 575 }

abbrev on : Clock
on = record { 0 = 642 }

abbrev frankfurt : Aerodrome
frankfurt = aerodrome_in (bytes "EDDF")

-- a departed flight may be changed and may arrive, and may not be delayed, cancelled or depart again
departed_allows : (permits (Departed off) Change ≡ true) × (permits (Departed off) (Arrive frankfurt on) ≡ true)
    × (permits (Departed off) Delay ≡ false) × (permits (Departed off) Cancel ≡ false) × (permits (Departed off) (Depart on) ≡ false)
departed_allows = (refl, refl, refl, refl, refl)

-- an arrival keeps the departure time, and has none where none is known
departure_kept : (next_state (next_state Filed (Depart off)) (Arrive frankfurt on) ≡ Arrived (Some off) frankfurt on)
    × (next_state (next_state Filed Delay) (Arrive frankfurt on) ≡ Arrived None frankfurt on)
departure_kept = (refl, refl)

-- 1,439 is the last minute, and an aerodrome has no digit
bounds : (sound_state (Departed (record { 0 = 1439 })) ≡ true) × (sound_state (Departed (record { 0 = 1440 })) ≡ false)
    × (sound_state (Arrived (Some off) frankfurt on) ≡ true) × (sound_state (Arrived (Some (record { 0 = 1440 })) frankfurt on) ≡ false)
    × (sound_state (Arrived None frankfurt (record { 0 = 1440 })) ≡ false) × (sound_state (Arrived None (aerodrome_in (bytes "AB1D")) on) ≡ false)
bounds = (refl, refl, refl, refl, refl, refl)
