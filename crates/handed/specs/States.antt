-- A strip's state as eight plain numbers. Assumes nothing.
--     kind (0 filed, 1 departed, 2 arrived, 3 cancelled), departure known (1, or 0), departure minute, the aerodrome's four bytes, arrival minute
-- What a state does not have is 0.
use Rattle.std.specs.Prelude.{ℕ, ◌≡◌, refl, Bool, true, false, cond, Option, None, Some, List, [], ◌∷◌, eqb, ltb, get_or}
use Rattle.alphabet.specs.Text.{bytes}
use Rattle.text.specs.Words.{same}
use Rattle.shape.specs.declared.Clock.{Clock}
use Rattle.aerodromes.specs.declared.Aerodrome.{Aerodrome}
use Rattle.aerodromes.specs.Asked.{aerodrome_in}
use Rattle.state.specs.declared.State.{State}
use Rattle.state.specs.declared.State.TheVariants.{Filed, Departed, Arrived, Cancelled}
use Rattle.state.specs.declared.Strip.{Strip}
use Rattle.state.specs.State.{sound}

-- THE NUMBERS OF A STATE

abbrev pub arrived_numbers : Option Clock → Aerodrome → Clock → List ℕ
arrived_numbers (Some d) a t = 2 ∷ 1 ∷ d.0 ∷ a.0 ∷ a.1 ∷ a.2 ∷ a.3 ∷ t.0 ∷ []
arrived_numbers None a t = 2 ∷ 0 ∷ 0 ∷ a.0 ∷ a.1 ∷ a.2 ∷ a.3 ∷ t.0 ∷ []

abbrev pub state_numbers : State → List ℕ
state_numbers Filed = 0 ∷ 0 ∷ 0 ∷ 0 ∷ 0 ∷ 0 ∷ 0 ∷ 0 ∷ []
state_numbers (Departed t) = 1 ∷ 1 ∷ t.0 ∷ 0 ∷ 0 ∷ 0 ∷ 0 ∷ 0 ∷ []
state_numbers (Arrived d a t) = arrived_numbers d a t
state_numbers Cancelled = 3 ∷ 0 ∷ 0 ∷ 0 ∷ 0 ∷ 0 ∷ 0 ∷ 0 ∷ []

-- THE STATE THAT NUMBERS MEAN: numbers that are not those of a state are no state

-- a number that the state has no room for is dropped, and so is not found again
abbrev pub kept : ℕ → ℕ → ℕ
kept room n = cond (ltb n room) n 0

abbrev pub minute_of : ℕ → Clock
minute_of n = record { 0 = kept 65536 n }

abbrev pub byte_of : ℕ → ℕ
byte_of n = kept 256 n

abbrev pub departure_of : ℕ → ℕ → Option Clock
departure_of known minute = cond (eqb known 0) None (Some (minute_of minute))

abbrev pub aerodrome_of : List ℕ → Aerodrome
aerodrome_of ns = record { 0 = byte_of (get_or ns 3 0); 1 = byte_of (get_or ns 4 0); 2 = byte_of (get_or ns 5 0); 3 = byte_of (get_or ns 6 0) }

abbrev pub arrived_by : List ℕ → State
arrived_by ns = Arrived (departure_of (get_or ns 1 0) (get_or ns 2 0)) (aerodrome_of ns) (minute_of (get_or ns 7 0))

abbrev pub state_of : List ℕ → State
state_of ns =
    cond (eqb (get_or ns 0 0) 1) (Departed (minute_of (get_or ns 2 0)))
    (cond (eqb (get_or ns 0 0) 2) (arrived_by ns)
    (cond (eqb (get_or ns 0 0) 3) Cancelled Filed))

unfoldable pub handed_as : List ℕ → Option Strip
handed_as ns = cond (same (state_numbers (state_of ns)) ns) (Some (record { state = state_of ns })) None

-- whether a strip may be handed in with these numbers
abbrev pub sound_as : Option Strip → Bool
sound_as (Some held) = sound held
sound_as None = false

-- EXAMPLES, computed: off at 0935, landed in Frankfurt at 1042

abbrev off : Clock
off = record { 0 = 575 }

abbrev on : Clock
on = record { 0 = 642 }

abbrev frankfurt : Aerodrome
frankfurt = aerodrome_in (bytes "EDDF")

laid_out : (state_numbers Filed ≡ 0 ∷ 0 ∷ 0 ∷ 0 ∷ 0 ∷ 0 ∷ 0 ∷ 0 ∷ []) × (state_numbers (Departed off) ≡ 1 ∷ 1 ∷ 575 ∷ 0 ∷ 0 ∷ 0 ∷ 0 ∷ 0 ∷ [])
    × (state_numbers (Arrived (Some off) frankfurt on) ≡ 2 ∷ 1 ∷ 575 ∷ 69 ∷ 68 ∷ 68 ∷ 70 ∷ 642 ∷ [])
    × (state_numbers (Arrived None frankfurt on) ≡ 2 ∷ 0 ∷ 0 ∷ 69 ∷ 68 ∷ 68 ∷ 70 ∷ 642 ∷ [])
    × (state_numbers Cancelled ≡ 3 ∷ 0 ∷ 0 ∷ 0 ∷ 0 ∷ 0 ∷ 0 ∷ 0 ∷ [])
laid_out = (refl, refl, refl, refl, refl)

-- the numbers of a state are that state
taken : (handed_as (1 ∷ 1 ∷ 575 ∷ 0 ∷ 0 ∷ 0 ∷ 0 ∷ 0 ∷ []) ≡ Some (record { state = Departed off }))
    × (handed_as (2 ∷ 0 ∷ 0 ∷ 69 ∷ 68 ∷ 68 ∷ 70 ∷ 642 ∷ []) ≡ Some (record { state = Arrived None frankfurt on }))
unfolding handed_as
taken = (refl, refl)

-- no state: a kind 4; a minute 70,000; a departure that is both known and not; a byte 325, which ends like 69; a filed flight with a departure
not_taken : (handed_as (4 ∷ 0 ∷ 0 ∷ 0 ∷ 0 ∷ 0 ∷ 0 ∷ 0 ∷ []) ≡ None) × (handed_as (1 ∷ 1 ∷ 70000 ∷ 0 ∷ 0 ∷ 0 ∷ 0 ∷ 0 ∷ []) ≡ None)
    × (handed_as (2 ∷ 0 ∷ 575 ∷ 69 ∷ 68 ∷ 68 ∷ 70 ∷ 642 ∷ []) ≡ None) × (handed_as (2 ∷ 2 ∷ 575 ∷ 69 ∷ 68 ∷ 68 ∷ 70 ∷ 642 ∷ []) ≡ None)
    × (handed_as (2 ∷ 1 ∷ 575 ∷ 325 ∷ 68 ∷ 68 ∷ 70 ∷ 642 ∷ []) ≡ None) × (handed_as (0 ∷ 1 ∷ 575 ∷ 0 ∷ 0 ∷ 0 ∷ 0 ∷ 0 ∷ []) ≡ None)
unfolding handed_as
not_taken = (refl, refl, refl, refl, refl, refl)

-- a state that no strip may be handed with: a minute 1,440, an aerodrome `AB1D`
unsound : (sound_as (handed_as (1 ∷ 1 ∷ 1440 ∷ 0 ∷ 0 ∷ 0 ∷ 0 ∷ 0 ∷ [])) ≡ false) × (sound_as (handed_as (1 ∷ 1 ∷ 1439 ∷ 0 ∷ 0 ∷ 0 ∷ 0 ∷ 0 ∷ [])) ≡ true)
    × (sound_as (handed_as (2 ∷ 1 ∷ 575 ∷ 65 ∷ 66 ∷ 49 ∷ 68 ∷ 642 ∷ [])) ≡ false) × (sound_as (handed_as (2 ∷ 1 ∷ 575 ∷ 65 ∷ 66 ∷ 67 ∷ 68 ∷ 642 ∷ [])) ≡ true)
unfolding handed_as
unsound = (refl, refl, refl, refl)
