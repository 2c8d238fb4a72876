-- The laws of the state: what is over allows nothing, and from a sound state a sound message leads to a sound state. Assumes nothing.
use Prim.Native.Nat.{ℕ, ◌+◌, ◌*◌, ◌/◌, ◌%◌, ◌<◌}
use mathlib.Core.Path.{◌≡◌, refl, sym, ◌∙◌}
use mathlib.Core.Bool.{Bool, true, false}
use mathlib.Core.List.{List}
use native.Mathlib.Omega.{arith}
use lib.Dec.{leb}
use native.Mathlib.Nat.{div-add-mod', mod-lt}
use borrow.Author.Tests.{leb-true, leb-false, le-leb, lt-leb}
use Rattle.std.specs.Prelude.{Option}
use Rattle.text.specs.Words.{Word, split}
use Rattle.text.proofs.Tests.{both, and_both}
use Rattle.shape.specs.declared.Clock.{Clock}
use Rattle.shape.specs.Time.{clock_hours, clock_fits, clock_of, valid_clock}
use Rattle.shape.proofs.Times.{time_valid}
use Rattle.aerodromes.specs.declared.Aerodrome.{Aerodrome}
use Rattle.aerodromes.specs.Aerodromes.{joined_of, first}
use Rattle.aerodromes.specs.Field13.{fits13, record13}
use Rattle.aerodromes.specs.Field17.{fits17, record17}
use Rattle.aerodromes.specs.Asked.{aerodrome_in, is_letters}
use Rattle.aerodromes.proofs.Aerodromes.{joined_time}
use Rattle.aerodromes.proofs.Field17.{landed_parts}
use Rattle.aerodromes.proofs.Asked.{named17}
use Rattle.state.specs.declared.State.{State}
use Rattle.state.specs.declared.State.TheVariants.{Filed, Departed, Arrived, Cancelled}
use Rattle.state.specs.declared.Strip.{Strip}
use Rattle.state.specs.declared.Event.{Event}
use Rattle.state.specs.declared.Event.TheVariants.{Change, Delay, Cancel, Depart, Arrive}
use Rattle.state.specs.State.{permits, departure_of, next_state, next_of, sound_clock, sound_departure, sound_landing, sound_state, sound, sound_event}

-- ARRIVED AND CANCELLED allow nothing

pub arrived_last : (d : Option Clock) (a : Aerodrome) (t : Clock) (e : Event) → permits (Arrived d a t) e ≡ false
arrived_last d a t e = refl

pub cancelled_last : (e : Event) → permits Cancelled e ≡ false
cancelled_last e = refl

-- SOUND STATES STAY SOUND

departure_sound : (s : State) → sound_state s ≡ true → sound_departure (departure_of s) ≡ true
departure_sound Filed h = refl
departure_sound (Departed t) h = h
departure_sound (Arrived d a t) h = (both (sound_departure d) (sound_landing a t) h).0
departure_sound Cancelled h = refl

state_sound : (s : State) (e : Event) → sound_state s ≡ true → sound_event e ≡ true → sound_state (next_state s e) ≡ true
state_sound s Change h k = h
state_sound s Delay h k = h
state_sound s Cancel h k = refl
state_sound s (Depart t) h k = k
state_sound s (Arrive a t) h k = and_both (sound_departure (departure_of s)) (sound_landing a t) (departure_sound s h) k

pub next_sound : (held : Strip) (e : Event) → sound held ≡ true → sound_event e ≡ true → sound (next_of held e) ≡ true
next_sound held e h k = state_sound held.state e h k

-- what a field may hold as a time of day is what a state may hold: hours of at most 23 are minutes of at most 1,439
pub clock_sound : (t : Clock) → valid_clock t ≡ sound_clock t
clock_sound t = go (leb (t.0 / 60) 23) refl
  where
    whole : t.0 / 60 * 60 + t.0 % 60 ≡ t.0
    whole = div-add-mod' t.0 60

    in_hour : t.0 % 60 < 60
    in_hour = mod-lt t.0 (omega arith)

    go : (b : Bool) → leb (t.0 / 60) 23 ≡ b → b ≡ sound_clock t
    go true e = sym (le-leb t.0 1439 (omega (arith, whole, in_hour, leb-true (t.0 / 60) 23 e)))
    go false e = sym (lt-leb t.0 1439 (omega (arith, whole, leb-false (t.0 / 60) 23 e)))

-- so what a DEP and an ARR bring into the state is sound
time_sound : (w : Word) → clock_fits w ≡ true → sound_clock (clock_of w) ≡ true
time_sound w e = sym (clock_sound (clock_of w)) ∙ time_valid clock_hours w e

pub depart_sound : (s : List ℕ) → fits13 s ≡ true → sound_event (Depart (record13 s).time) ≡ true
depart_sound s e = time_sound (joined_of s) (joined_time clock_hours s e)

pub arrive_sound : (s : List ℕ) → fits17 s ≡ true → sound_event (Arrive (aerodrome_in s) (record17 s).time) ≡ true
arrive_sound s e =
    and_both (is_letters (aerodrome_in s)) (sound_clock (record17 s).time) (named17 s e).lettered
    (time_sound (joined_of (first (split 32 s))) (joined_time clock_hours (first (split 32 s)) (landed_parts s e).0))
