-- Field 8: contents that fit and valid records determine one another. Assumes nothing.
use Prim.Native.Nat.{ℕ}
use mathlib.Core.Path.{◌≡◌, refl}
use mathlib.Core.Bool.{true, ◌&&◌, false≢true}
use mathlib.Core.List.{List, [], ◌∷◌}
use mathlib.Core.Option.{Option, none, some}
use native.Mathlib.Omega.{arith}
use Rattle.alphabet.specs.Text.{bytes}
use Rattle.alphabet.specs.Alphabet.{letter}
use Rattle.text.specs.Words.{tidy}
use Rattle.text.proofs.Tests.{both, and_both, of_one}
use Rattle.text.proofs.Tidy.{letter_tidy, tidy_word_lem, tidy_one}
use Rattle.shape.specs.Field.{Laws}
use Rattle.shape.proofs.Fields.{Facts, plain}
use Rattle.head.specs.Field8.{spell_flight, rules_fit, flight_fits, valid_flight, valid8, spell8, fits8, record8, field8}

spelled : (s : List ℕ) → fits8 s ≡ true → spell8 (record8 s) ≡ s
unfolding fits8
spelled [] e = absurd (false≢true e)
spelled (a ∷ []) e = refl
spelled (a ∷ (b ∷ [])) e = refl
spelled (a ∷ (b ∷ (c ∷ s))) e = absurd (false≢true e)

held : (s : List ℕ) → fits8 s ≡ true → valid8 (record8 s) ≡ true
unfolding fits8 valid8
held [] e = absurd (false≢true e)
held (a ∷ []) e = and_both (rules_fit a) true e refl
held (a ∷ (b ∷ [])) e = e
held (a ∷ (b ∷ (c ∷ s))) e = absurd (false≢true e)

back : (a : ℕ) (f : Option ℕ) → (rules_fit a && valid_flight f) ≡ true
    → (fits8 (a ∷ spell_flight f) ≡ true) × (record8 (a ∷ spell_flight f) ≡ record { rules = a; flight = f })
unfolding fits8
back a none e = ((both (rules_fit a) true e).0, refl)
back a (some b) e = (e, refl)

-- the letters of rules and flights are letters
rules_letter : (b : ℕ) → rules_fit b ≡ true → letter b ≡ true
rules_letter b e = of_one letter (bytes "IVYZ") refl b e

flight_letter : (b : ℕ) → flight_fits b ≡ true → letter b ≡ true
flight_letter b e = of_one letter (bytes "SNGMX") refl b e

tidied : (s : List ℕ) → fits8 s ≡ true → tidy s ≡ true
unfolding fits8
tidied [] e = absurd (false≢true e)
tidied (a ∷ []) e = tidy_one (a ∷ []) (tidy_word_lem letter letter_tidy (a ∷ []) (omega arith) (rw (rules_letter a e)))
tidied (a ∷ (b ∷ [])) e =
    let h = both (rules_fit a) (flight_fits b) e in
    tidy_one (a ∷ (b ∷ [])) (tidy_word_lem letter letter_tidy (a ∷ (b ∷ [])) (omega arith) (rw (rules_letter a h.0, flight_letter b h.1)))
tidied (a ∷ (b ∷ (c ∷ s))) e = absurd (false≢true e)

facts : Facts field8
unfolding valid8
facts =
    record {
      spelled = spelled;
      held = held;
      taken = λ r v. (back r.rules r.flight v).0;
      back = λ r v. (back r.rules r.flight v).1;
      tidied = tidied;
    }

pub field8_laws : Laws field8
field8_laws = plain field8 (λ r. refl) facts
