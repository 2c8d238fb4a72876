-- The cause of an update's answer as nine plain numbers. Assumes nothing.
--     number (0 nothing more, 10, 12, 13), and then
--     for 12: whether identification, aerodrome, time, destination and date differ (1, or 0)
--     for 10: the missing key (1 TYP, 2 DEP, 3 DEST, 4 ALTN)
--     for 13: the eight numbers of the state found
-- What is not used is 0.
use Rattle.std.specs.Prelude.{ℕ, ◌≡◌, refl, Bool, true, false, cond, Option, None, Some, List, [], ◌∷◌}
use Rattle.state.specs.declared.State.TheVariants.{Departed}
use Rattle.state.specs.declared.Strip.{Strip}
use Rattle.strip.specs.declared.Differences.{Differences}
use Rattle.causes.specs.declared.Key.{Key}
use Rattle.causes.specs.declared.Key.TheVariants.{Typ, Dep, Dest, Altn}
use Rattle.causes.specs.declared.Cause.{Cause}
use Rattle.causes.specs.declared.Cause.TheVariants.{NothingMore, Another, Missing, Forbidden}
use Rattle.causes.specs.Causes.{cause_of}
use Rattle.handed.specs.States.{state_numbers}

abbrev pub flag : Bool → ℕ
flag b = cond b 1 0

abbrev pub set_numbers : Differences → List ℕ
set_numbers d =
    12 ∷ flag d.identification ∷ flag d.aerodrome ∷ flag d.time ∷ flag d.destination ∷ flag d.date ∷ 0 ∷ 0 ∷ 0 ∷ []

abbrev pub key_number : Key → ℕ
key_number Typ = 1
key_number Dep = 2
key_number Dest = 3
key_number Altn = 4

abbrev pub cause_number : Cause → ℕ
cause_number NothingMore = 0
cause_number (Another d) = 12
cause_number (Missing key) = 10
cause_number (Forbidden state) = 13

abbrev pub cause_numbers : Cause → List ℕ
cause_numbers NothingMore = 0 ∷ 0 ∷ 0 ∷ 0 ∷ 0 ∷ 0 ∷ 0 ∷ 0 ∷ 0 ∷ []
cause_numbers (Another d) = set_numbers d
cause_numbers (Missing key) = 10 ∷ key_number key ∷ 0 ∷ 0 ∷ 0 ∷ 0 ∷ 0 ∷ 0 ∷ 0 ∷ []
cause_numbers (Forbidden state) = 13 ∷ state_numbers state

-- of a strip that is handed in with such numbers: nothing more where they are no state, for which the update gives 15
abbrev pub cause_as : Option Strip → List ℕ → List ℕ → Cause
cause_as (Some held) strip m = cause_of strip held m
cause_as None strip m = NothingMore

-- EXAMPLES, computed: another time and destination, no DEST, off at 1021

laid_out : (cause_numbers (Another (record { identification = false; aerodrome = false; time = true; destination = true; date = false }))
    ≡ 12 ∷ 0 ∷ 0 ∷ 1 ∷ 1 ∷ 0 ∷ 0 ∷ 0 ∷ 0 ∷ [])
    × (cause_numbers (Missing Dest) ≡ 10 ∷ 3 ∷ 0 ∷ 0 ∷ 0 ∷ 0 ∷ 0 ∷ 0 ∷ 0 ∷ [])
    × (cause_numbers (Forbidden (Departed (record { 0 = 621 }))) ≡ 13 ∷ 1 ∷ 1 ∷ 621 ∷ 0 ∷ 0 ∷ 0 ∷ 0 ∷ 0 ∷ [])
laid_out = (refl, refl, refl)
