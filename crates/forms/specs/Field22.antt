-- Field 22: a field number without leading zero, `/`, and that field whole in its FPL form; in a CHG 16 may be four letters alone (document 02,
-- request 2). Assumes nothing.
use Rattle.std.specs.Prelude.{ℕ, ◌-◌, ◌≡◌, refl, Bool, true, false, ◌&&◌, cond, List, [], ◌∷◌, ◌++◌, leb, ltb, eqb, length, get_or}
use Rattle.alphabet.specs.Text.{bytes}
use Rattle.alphabet.specs.Alphabet.{digit}
use Rattle.text.specs.Words.{Word, split, holds, before, behind, all, rank}
use Rattle.shape.specs.Field.{Field}
use Rattle.shape.specs.Time.{time_fits}
use Rattle.head.specs.Field7.{field7}
use Rattle.head.specs.Field8.{field8, fits8}
use Rattle.head.specs.Field9.{field9, fits9, count_fits, aircraft_fits}
use Rattle.equipment.specs.Field10.{field10, present}
use Rattle.aerodromes.specs.Field13.{field13}
use Rattle.aerodromes.specs.Field16.{field16entry, fits16plan}
use Rattle.aerodromes.specs.Aerodromes.{four_letters, joined}
use Rattle.route.specs.Field15.{field15}
use Rattle.other.specs.Field18.{field18, fits_in}

-- WHICH ENTRIES THERE ARE: the numbers, and the form of each, in the same order; an entry names one by its rank, counted from 1

pub record Entries : Type 1 where
  pub numbers : List Word
  pub forms : List Field

-- THE FORM OF AN ENTRY, for whatever numbers and forms there are

module _ (es : Entries) where
  abbrev pub number_of : ℕ → Word
  number_of n = get_or es.numbers (n - 1) []

  abbrev pub form_named : ℕ → Field
  form_named n = get_or es.forms (n - 1) field18

  -- the rank of the number before the oblique; 0 where it is none of them
  abbrev pub rank_named : List ℕ → ℕ
  rank_named s = rank (before 47 s) es.numbers

  pub record Entry : Type 0 where
    pub which : ℕ
    pub content : (form_named which).Record

  abbrev pub spell_entry : Entry → List ℕ
  spell_entry r = number_of r.which ++ (47 ∷ (form_named r.which).spell r.content)

  abbrev pub valid_entry : Entry → Bool
  valid_entry r = leb 1 r.which && (leb r.which (length es.numbers) && (form_named r.which).valid r.content)

  abbrev pub fits_entry : List ℕ → Bool
  fits_entry s = holds 47 s && (ltb 0 (rank_named s) && (form_named (rank_named s)).fits (behind 47 s))

  abbrev pub record_entry : List ℕ → Entry
  record_entry s = record { which = rank_named s; content = (form_named (rank_named s)).record_of (behind 47 s) }

  abbrev pub entry_form : Field
  entry_form =
      record { Record = Entry; valid = valid_entry; spell = spell_entry; fits = fits_entry; record_of = record_entry; canonical = λ r. r }

-- FIELD 22 OF A CHG: eight numbers

unfoldable pub labels : List Word
labels = split 32 (bytes "7 8 9 10 13 15 16 18")

abbrev pub named : List Field
named = field7 ∷ (field8 ∷ (field9 ∷ (field10 present ∷ (field13 ∷ (field15 ∷ (field16entry ∷ (field18 ∷ [])))))))

abbrev pub changes : Entries
changes = record { numbers = labels; forms = named }

abbrev pub label_of : ℕ → Word
label_of n = number_of changes n

abbrev pub field_named : ℕ → Field
field_named n = form_named changes n

abbrev pub which_of : List ℕ → ℕ
which_of s = rank_named changes s

abbrev pub Field22 : Type 0
Field22 = Entry changes

abbrev pub spell22 : Field22 → List ℕ
spell22 r = spell_entry changes r

unfoldable pub valid22 : Field22 → Bool
valid22 r = valid_entry changes r

unfoldable pub fits22 : List ℕ → Bool
fits22 s = fits_entry changes s

abbrev pub record22 : List ℕ → Field22
record22 s = record_entry changes s

abbrev pub field22 : Field
field22 = record { Record = Field22; valid = valid22; spell = spell22; fits = fits22; record_of = record22; canonical = λ r. r }

-- WHAT IS WRONG WITH AN ENTRY: the number given back, 0 for nothing

-- one or two digits before the first oblique
abbrev pub numbered : List ℕ → Bool
numbered s = holds 47 s && (leb 1 (length (before 47 s)) && (leb (length (before 47 s)) 2 && all digit (before 47 s)))

-- 8 where the number is none of the eight, 9 where an earlier entry has it (`again`), 7 where no number can be read or the content
-- does not fit
unfoldable pub fault22 : Bool → List ℕ → ℕ
fault22 again s =
    cond (numbered s)
    (cond (eqb (which_of s) 0) 8
    (cond again 9
    (cond ((field_named (which_of s)).fits (behind 47 s)) 0 7)))
    7

-- EXAMPLES, computed

ranked : (which_of (bytes "9/B39M/M") ≡ 3) × (which_of (bytes "18/0") ≡ 8) × (which_of (bytes "07/ABC12") ≡ 0) × (which_of (bytes "14/X") ≡ 0)
unfolding labels
ranked = (refl, refl, refl, refl)

tried : (fault22 false (bytes "8/IN") ≡ 0) × (fault22 true (bytes "8/IN") ≡ 9) × (fault22 false (bytes "8/XX") ≡ 7) × (fault22 false (bytes "07/ABC12") ≡ 8)
    × (fault22 false (bytes "123/X") ≡ 7) × (fault22 false (bytes "8 /IN") ≡ 7) × (fault22 false (bytes "/IN") ≡ 7) × (fault22 false (bytes "8") ≡ 7)
unfolding fault22 labels fits8
tried = (refl, refl, refl, refl, refl, refl, refl, refl)

accepted : (fits22 (bytes "9/B39M/M") ≡ true) × (fits22 (bytes "18/0") ≡ true) × (fits22 (bytes "8/IN") ≡ true)
unfolding fits22 labels fits8 fits9 count_fits aircraft_fits fits_in
accepted = (refl, refl, refl)

-- field 16 as an FPL has it, or four letters alone
destined : (fits22 (bytes "16/EDDN0100 EDDF") ≡ true) × (fits22 (bytes "16/EDDN") ≡ true) × (fits22 (bytes "16/EDD") ≡ false)
    × (fits22 (bytes "16/EDDN EDDF") ≡ false) × (fits22 (bytes "16/EDDN0") ≡ false)
unfolding fits22 labels fits16plan joined four_letters time_fits
destined = (refl, refl, refl, refl, refl)

refused : (fits22 (bytes "8/ ") ≡ false) × (fits22 (bytes "8/") ≡ false) × (fits22 (bytes "17/EDDN0100") ≡ false)
unfolding fits22 labels fits8
refused = (refl, refl, refl)

spelt : spell22 (record22 (bytes "9/2FK27/M")) ≡ bytes "9/2FK27/M"
unfolding labels
spelt = refl
