-- Field 13 is proved: its form, and its form where the time may be absent. Assumes nothing.
use Prim.Native.Nat.{ℕ}
use mathlib.Core.Path.{◌≡◌, refl, ap, ap₂, ◌∙◌}
use mathlib.Core.Bool.{true}
use mathlib.Core.List.{List, [], ◌∷◌, ◌++◌}
use native.Mathlib.Omega.{arith}
use lib.ListN.{take, drop, take-append-drop}
use Rattle.std.specs.Prelude.{Option, Some, None}
use Rattle.alphabet.specs.Alphabet.{digit}
use Rattle.text.specs.Words.{Word, all}
use Rattle.text.proofs.Tests.{both, and_both}
use Rattle.text.proofs.Tidy.{tidy_one}
use Rattle.shape.specs.declared.Clock.{Clock}
use Rattle.shape.specs.Time.{clock_hours, clock_fits, clock_of, spell_clock}
use Rattle.shape.specs.Field.{Laws}
use Rattle.shape.proofs.Fields.{Facts, plain}
use Rattle.shape.proofs.Times.{time_length, time_digits, time_exact, time_valid, time_fits_lem, time_minutes_lem}
use Rattle.aerodromes.specs.Aerodromes.{four_letters, aerodrome_of, joined_of}
use Rattle.aerodromes.specs.Field13.{Field13, valid13, spell13, record13, field13}
use Rattle.aerodromes.specs.Field13.{clock_or_none, clock_if_any, valid_if_any, spell_if_any}
use Rattle.aerodromes.specs.Field13.{Field13Open, valid13open, spell13open, fits13open, record13open, field13open}
use Rattle.aerodromes.proofs.Aerodromes.{cut_aerodrome, cut_joined, digits_tidy}
use Rattle.aerodromes.proofs.Aerodromes.{joined_spelled, joined_valid, joined_tidy, joined_aerodrome, joined_minutes, joined_fits}

-- FIELD 13

back13 : (r : Field13) → valid13 r ≡ true → record13 (spell13 r) ≡ r
back13 r v =
    ap₂ (λ (a : Word) (n : ℕ). record { aerodrome = a; time = record { 0 = n } })
    (joined_aerodrome clock_hours r.aerodrome r.time.0 (omega arith) v)
    (joined_minutes clock_hours r.aerodrome r.time.0 (omega arith) v)

facts13 : Facts field13
facts13 =
    record {
      spelled = joined_spelled clock_hours;
      held = joined_valid clock_hours;
      taken = λ r v. joined_fits clock_hours r.aerodrome r.time.0 (omega arith) v;
      back = back13;
      tidied = λ s e. tidy_one s (joined_tidy clock_hours s e);
    }

pub field13_laws : Laws field13
field13_laws = plain field13 (λ r. refl) facts13

-- A TIME OF DAY OR NOTHING

if_any_spelled : (w : Word) → clock_or_none w ≡ true → spell_if_any (clock_if_any w) ≡ w
if_any_spelled [] e = refl
if_any_spelled (b ∷ w) e = time_exact clock_hours (b ∷ w) e

if_any_valid : (w : Word) → clock_or_none w ≡ true → valid_if_any (clock_if_any w) ≡ true
if_any_valid [] e = refl
if_any_valid (b ∷ w) e = time_valid clock_hours (b ∷ w) e

if_any_digits : (w : Word) → clock_or_none w ≡ true → all digit w ≡ true
if_any_digits [] e = refl
if_any_digits (b ∷ w) e = time_digits clock_hours (b ∷ w) e

-- four digits are not nothing
if_clock : (w : Word) → clock_fits w ≡ true → (clock_or_none w ≡ true) × (clock_if_any w ≡ Some (clock_of w))
if_clock [] e = absurd (omega (arith, time_length clock_hours [] e))
if_clock (b ∷ w) e = (e, refl)

if_any_back : (t : Option Clock) → valid_if_any t ≡ true → (clock_or_none (spell_if_any t) ≡ true) × (clock_if_any (spell_if_any t) ≡ t)
if_any_back None v = (refl, refl)
if_any_back (Some t) v =
    let h = if_clock (spell_clock t) (time_fits_lem clock_hours t.0 (omega arith) v) in
    (h.0, h.1 ∙ ap (λ (n : ℕ). Some (record { 0 = n })) (time_minutes_lem clock_hours t.0 (omega arith) v))

-- FIELD 13 IN RQP

module _ (s : List ℕ) (e : fits13open s ≡ true) where
  pub open_parts : (four_letters (aerodrome_of s) ≡ true) × (clock_or_none (joined_of s) ≡ true)
  unfolding fits13open
  open_parts = both (four_letters (aerodrome_of s)) (clock_or_none (joined_of s)) e

  spelled13open : spell13open (record13open s) ≡ s
  spelled13open = ap (λ (t : Word). take 4 s ++ t) (if_any_spelled (drop 4 s) open_parts.1) ∙ take-append-drop 4 s

  held13open : valid13open (record13open s) ≡ true
  held13open = and_both (four_letters (aerodrome_of s)) (valid_if_any (clock_if_any (joined_of s))) open_parts.0 (if_any_valid (joined_of s) open_parts.1)

module _ (r : Field13Open) (v : valid13open r ≡ true) where
  parts : (four_letters r.aerodrome ≡ true) × (valid_if_any r.time ≡ true)
  parts = both (four_letters r.aerodrome) (valid_if_any r.time) v

  aerodrome_cut : aerodrome_of (spell13open r) ≡ r.aerodrome
  aerodrome_cut = cut_aerodrome r.aerodrome parts.0 (spell_if_any r.time)

  time_cut : joined_of (spell13open r) ≡ spell_if_any r.time
  time_cut = cut_joined r.aerodrome parts.0 (spell_if_any r.time)

  taken13open : fits13open (spell13open r) ≡ true
  unfolding fits13open
  taken13open =
      and_both (four_letters (aerodrome_of (spell13open r))) (clock_or_none (joined_of (spell13open r)))
      (ap four_letters aerodrome_cut ∙ parts.0)
      (ap clock_or_none time_cut ∙ (if_any_back r.time parts.1).0)

  back13open : record13open (spell13open r) ≡ r
  back13open =
      ap₂ (λ (a : Word) (t : Option Clock). record { aerodrome = a; time = t }) aerodrome_cut (ap clock_if_any time_cut ∙ (if_any_back r.time parts.1).1)

facts13open : Facts field13open
facts13open =
    record {
      spelled = spelled13open;
      held = held13open;
      taken = taken13open;
      back = back13open;
      tidied = λ s e. let h = open_parts s e in tidy_one s (digits_tidy s h.0 (if_any_digits (joined_of s) h.1));
    }

pub field13open_laws : Laws field13open
field13open_laws = plain field13open (λ r. refl) facts13open
