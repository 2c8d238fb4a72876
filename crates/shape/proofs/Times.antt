-- Times: four digits and their minutes determine one another, for every greatest hour of at most 99. Assumes nothing.
use Prim.Native.Nat.{ℕ, ◌+◌, ◌*◌, ◌/◌, ◌%◌, ◌<◌, ◌≤◌}
use mathlib.Core.Path.{◌≡◌, refl, sym, ap, ap₂, ◌∙◌}
use mathlib.Core.Bool.{Bool, true, false, ◌&&◌}
use mathlib.Core.List.{List, [], ◌∷◌, append-nil}
use native.Mathlib.Omega.{arith}
use native.Mathlib.Nat.{mul-add-div_right, mul-add-mod_self_right, div-eq_of_lt, mod-eq_of_lt, div-add-mod', mod-lt, add-zero}
use lib.Dec.{leb}
use lib.ListN.{length, get_or}
use borrow.Author.Tests.{leb-true, le-leb, lt-ltb}
use Rattle.std.specs.Prelude.{Option, Some, is_some}
use Rattle.std.specs.Bool.{then_some}
use Rattle.alphabet.specs.Alphabet.{digit}
use Rattle.text.specs.Words.{Word, all}
use Rattle.text.proofs.Tests.{both, and_both}
use Rattle.shape.specs.Numbers.{digits}
use Rattle.shape.specs.Shape.{fits, copies, wide, values}
use Rattle.shape.specs.Time.{hours_minutes, hours, minutes, time_fits, time_minutes, spell_time, valid_time}
use Rattle.shape.specs.Time.{clock_hours, elapsed_hours, clock_fits, clock_of, elapsed_of, spell_elapsed, elapsed_read}
use Rattle.shape.proofs.Index.{fits_lengths, fits_other, fits_digits}
use Rattle.shape.proofs.Exact.{spells_values, values_spells, fits_all}

-- what a time that fits is
pub record Parts (most : ℕ) (w : Word) : Type 0 where
  pub shaped : fits (wide hours_minutes) w ≡ true
  pub hours_in : hours w ≤ most
  pub minutes_in : minutes w ≤ 59

pub parts : (most : ℕ) (w : Word) → time_fits most w ≡ true → Parts most w
unfolding time_fits
parts most w e =
    let g = both (fits (wide hours_minutes) w) (leb (hours w) most && leb (minutes w) 59) e in
    let h = both (leb (hours w) most) (leb (minutes w) 59) g.1 in
    record { shaped = g.0; hours_in = leb-true (hours w) most h.0; minutes_in = leb-true (minutes w) 59 h.1 }

-- the shape of a time is four digits, whichever they are
pub four_digits : (w : Word) → length w ≡ 4 → fits (wide hours_minutes) w ≡ all digit w
four_digits w h = ap (λ (k : ℕ). fits (copies k) w) (sym h) ∙ fits_digits w

pub not_four : (most : ℕ) (w : Word) → (length w ≡ 4 → ⊥) → time_fits most w ≡ false
unfolding time_fits
not_four most w h = rw (fits_other (wide hours_minutes) w (λ e. h (sym e)))

pub time_length : (most : ℕ) (w : Word) → time_fits most w ≡ true → length w ≡ 4
time_length most w e = fits_lengths (wide hours_minutes) w (parts most w e).shaped

pub time_digits : (most : ℕ) (w : Word) → time_fits most w ≡ true → all digit w ≡ true
time_digits most w e = fits_all digit (λ b h. h) (wide hours_minutes) w refl (parts most w e).shaped

-- what it takes to count the minutes
pub counted : (most : ℕ) (w : Word) → most ≤ 99 → time_fits most w ≡ true → (length w ≡ 4) × (hours w ≤ 99) × (minutes w ≤ 59)
counted most w l e = let p = parts most w e in (time_length most w e, omega (arith, p.hours_in), p.minutes_in)

-- hours and minutes of a number of minutes
hours_back : (h m : ℕ) → m ≤ 59 → (h * 60 + m) / 60 ≡ h
hours_back h m l = mul-add-div_right (omega arith) h m ∙ ap (λ (n : ℕ). h + n) (div-eq_of_lt (omega arith)) ∙ add-zero h

minutes_back : (h m : ℕ) → m ≤ 59 → (h * 60 + m) % 60 ≡ m
minutes_back h m l = mul-add-mod_self_right h 60 m ∙ mod-eq_of_lt (omega arith)

pub time_exact : (most : ℕ) (w : Word) → time_fits most w ≡ true → spell_time (time_minutes w) ≡ w
time_exact most w e =
    let p = parts most w e in
    rw (hours_back (hours w) (minutes w) p.minutes_in, minutes_back (hours w) (minutes w) p.minutes_in, ← append-nil (digits 2 (minutes w)))
    (spells_values hours_minutes w p.shaped)

pub time_valid : (most : ℕ) (w : Word) → time_fits most w ≡ true → valid_time most (time_minutes w) ≡ true
time_valid most w e =
    let p = parts most w e in
    rw (hours_back (hours w) (minutes w) p.minutes_in) (le-leb (hours w) most p.hours_in)

module _ (most n : ℕ) (l : most ≤ 99) (v : valid_time most n ≡ true) where
  few : n / 60 ≤ most
  few = leb-true (n / 60) most v

  in_hour : n % 60 < 60
  in_hour = mod-lt n (omega arith)

  back : (fits (wide hours_minutes) (spell_time n) ≡ true) × (values hours_minutes (spell_time n) ≡ n / 60 ∷ (n % 60 ∷ []))
  back =
      values_spells hours_minutes (n / 60 ∷ (n % 60 ∷ []))
      (rw (lt-ltb (n / 60) 100 (omega (arith, few)), lt-ltb (n % 60) 100 (omega (arith, in_hour))))

  hours_are : hours (spell_time n) ≡ n / 60
  hours_are = ap (λ (vs : List ℕ). get_or vs 0 0) back.1

  minutes_are : minutes (spell_time n) ≡ n % 60
  minutes_are = ap (λ (vs : List ℕ). get_or vs 1 0) back.1

  pub time_fits_lem : time_fits most (spell_time n) ≡ true
  unfolding time_fits
  time_fits_lem =
      and_both (fits (wide hours_minutes) (spell_time n)) _ back.0
      (and_both (leb (hours (spell_time n)) most) (leb (minutes (spell_time n)) 59)
      (ap (λ (k : ℕ). leb k most) hours_are ∙ v)
      (ap (λ (k : ℕ). leb k 59) minutes_are ∙ le-leb (n % 60) 59 (omega (arith, in_hour))))

  pub time_minutes_lem : time_minutes (spell_time n) ≡ n
  time_minutes_lem = ap₂ (λ (h m : ℕ). h * 60 + m) hours_are minutes_are ∙ div-add-mod' n 60

-- WHAT READING GIVES, a time of day or an elapsed time

pub told : {T : Type 0} (b : Bool) (t : T) → is_some (then_some b t) ≡ b
told true t = refl
told false t = refl

-- the answer on what a reader gave
pub by_time : {T : Type 0} {x : Option T} {r b : Bool} (t : T) → x ≡ then_some b t → r ≡ is_some x → r ≡ b
by_time {b = b} t p q = q ∙ ap is_some p ∙ told b t

-- A GREATER GREATEST HOUR, as request 1 of document 02 gave elapsed times: what was a time before is one still, and every time of day is an elapsed
-- time of as many minutes. Minutes and spelling do not speak of the greatest hour.

pub time_longer : (least most : ℕ) (w : Word) → least ≤ most → time_fits least w ≡ true → time_fits most w ≡ true
unfolding time_fits
time_longer least most w l e =
    let p = parts least w e in
    and_both (fits (wide hours_minutes) w) (leb (hours w) most && leb (minutes w) 59) p.shaped
    (and_both (leb (hours w) most) (leb (minutes w) 59) (le-leb (hours w) most (omega (arith, l, p.hours_in)))
    (le-leb (minutes w) 59 p.minutes_in))

pub day_elapsed : (w : Word) → clock_fits w ≡ true
    → (elapsed_read w ≡ Some (elapsed_of w)) × ((elapsed_of w).0 ≡ (clock_of w).0) × (spell_elapsed (elapsed_of w) ≡ w)
day_elapsed w e =
    let f = time_longer clock_hours elapsed_hours w (omega arith) e in
    (ap (λ (b : Bool). then_some b (elapsed_of w)) f, refl, time_exact clock_hours w e)
