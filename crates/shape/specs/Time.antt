-- Times (document 01, "Times"): four digits, hours and minutes. A time of day is a `Clock`, an elapsed time an `Elapsed`: both a number of
-- minutes, and neither stands where the other is due. Assumes nothing.
use Rattle.std.specs.Prelude.{ℕ, ◌+◌, ◌*◌, ◌/◌, ◌%◌, ◌≡◌, refl, Bool, true, false, ◌&&◌, ◌++◌, leb, take, drop, Option, Some, None, is_some}
use Rattle.std.specs.Bool.{then_some}
use Rattle.alphabet.specs.Text.{bytes}
use Rattle.text.specs.Words.{Word}
use Rattle.shape.specs.Numbers.{digits, value}
use Rattle.shape.specs.Shape.{fits, wide}
use Rattle.shape.specs.declared.Clock.{Clock}
use Rattle.shape.specs.declared.Elapsed.{Elapsed}

-- THE GREATEST HOURS of a time of day, and of an elapsed time (document 02, request 1)

abbrev pub clock_hours : ℕ
clock_hours = 23

abbrev pub elapsed_hours : ℕ
elapsed_hours = 99

-- HOURS AND MINUTES, for a greatest hour

-- hours and minutes, two digits each
abbrev pub hours_minutes : Word
hours_minutes = bytes "22"

abbrev pub hours : Word → ℕ
hours w = value (take 2 w)

abbrev pub minutes : Word → ℕ
minutes w = value (take 2 (drop 2 w))

unfoldable pub time_fits : ℕ → Word → Bool
time_fits most w = fits (wide hours_minutes) w && (leb (hours w) most && leb (minutes w) 59)

abbrev pub time_minutes : Word → ℕ
time_minutes w = hours w * 60 + minutes w

abbrev pub spell_time : ℕ → Word
spell_time n = digits 2 (n / 60) ++ digits 2 (n % 60)

abbrev pub valid_time : ℕ → ℕ → Bool
valid_time most n = leb (n / 60) most

-- A TIME OF DAY

abbrev pub clock_fits : Word → Bool
clock_fits w = time_fits clock_hours w

abbrev pub clock_of : Word → Clock
clock_of w = record { 0 = time_minutes w }

abbrev pub spell_clock : Clock → Word
spell_clock t = spell_time t.0

abbrev pub valid_clock : Clock → Bool
valid_clock t = valid_time clock_hours t.0

-- AN ELAPSED TIME

abbrev pub elapsed_fits : Word → Bool
elapsed_fits w = time_fits elapsed_hours w

abbrev pub elapsed_of : Word → Elapsed
elapsed_of w = record { 0 = time_minutes w }

abbrev pub spell_elapsed : Elapsed → Word
spell_elapsed t = spell_time t.0

abbrev pub valid_elapsed : Elapsed → Bool
valid_elapsed t = valid_time elapsed_hours t.0

-- WHAT READING GIVES: the time, where there is one

abbrev pub time_read : ℕ → Word → Option ℕ
time_read most w = then_some (time_fits most w) (time_minutes w)

abbrev pub clock_read : Word → Option Clock
clock_read w = then_some (clock_fits w) (clock_of w)

abbrev pub elapsed_read : Word → Option Elapsed
elapsed_read w = then_some (elapsed_fits w) (elapsed_of w)

-- EXAMPLES, computed

day : (clock_fits (bytes "2359") ≡ true) × (clock_fits (bytes "2400") ≡ false) × (clock_fits (bytes "2460") ≡ false) × (clock_fits (bytes "930") ≡ false)
unfolding time_fits
day = (refl, refl, refl, refl)

told : (is_some (clock_read (bytes "2359")) ≡ true) × (is_some (clock_read (bytes "2400")) ≡ false)
    × (is_some (elapsed_read (bytes "0100")) ≡ true) × (is_some (elapsed_read (bytes "0160")) ≡ false)
unfolding time_fits
told = (refl, refl, refl, refl)

-- an elapsed time goes beyond a day, and is not brought into one
beyond_a_day : (elapsed_read (bytes "2359") ≡ Some (record { 0 = 1439 })) × (elapsed_read (bytes "2400") ≡ Some (record { 0 = 1440 }))
    × (elapsed_read (bytes "2600") ≡ Some (record { 0 = 1560 })) × (elapsed_read (bytes "9959") ≡ Some (record { 0 = 5999 }))
    × (elapsed_read (bytes "9960") ≡ None) × (elapsed_read (bytes "2460") ≡ None) × (spell_elapsed (record { 0 = 1560 }) ≡ bytes "2600")
unfolding time_fits
beyond_a_day = (refl, refl, refl, refl, refl, refl, refl)

minute : (time_minutes (bytes "0930") ≡ 570) × (spell_time 570 ≡ bytes "0930")
minute = (refl, refl)
