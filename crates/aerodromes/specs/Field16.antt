-- Field 16 (document 01): four letters; its form in FPL and SPL, with an elapsed time and 0 to 2 alternates; and as an entry of a CHG, which has
-- either (document 02, request 2). Assumes nothing.
use Rattle.std.specs.Prelude.{ℕ, ◌≡◌, refl, Bool, true, false, ◌&&◌, ◌||◌, cond, List, [], ◌∷◌, leb, length}
use Rattle.alphabet.specs.Text.{bytes}
use Rattle.text.specs.Words.{Word, all, split, join}
use Rattle.shape.specs.declared.Elapsed.{Elapsed}
use Rattle.shape.specs.Time.{time_fits, elapsed_hours, elapsed_of}
use Rattle.shape.specs.Field.{Field}
use Rattle.aerodromes.specs.Aerodromes.{four_letters, aerodrome_of, joined_of, joined, valid_joined, spell_joined, first, others}

-- FIELD 16 ALONE

pub record Field16 : Type 0 where
  pub destination : Word

abbrev pub valid16 : Field16 → Bool
valid16 r = four_letters r.destination

abbrev pub spell16 : Field16 → List ℕ
spell16 r = r.destination

abbrev pub fits16 : List ℕ → Bool
fits16 s = four_letters s

abbrev pub record16 : List ℕ → Field16
record16 s = record { destination = s }

abbrev pub field16 : Field
field16 = record { Record = Field16; valid = valid16; spell = spell16; fits = fits16; record_of = record16; canonical = λ r. r }

-- FIELD 16 IN FPL AND SPL

-- aerodromes, at most so many
abbrev pub few_aerodromes : ℕ → List Word → Bool
few_aerodromes most ws = leb (length ws) most && all four_letters ws

abbrev pub most_alternates : ℕ
most_alternates = 2

pub record Field16Plan : Type 0 where
  pub destination : Word
  pub elapsed : Elapsed
  pub alternates : List Word

abbrev pub valid16plan : Field16Plan → Bool
valid16plan r = valid_joined elapsed_hours r.destination r.elapsed.0 && few_aerodromes most_alternates r.alternates

abbrev pub spell16plan : Field16Plan → List ℕ
spell16plan r = join 32 (spell_joined r.destination r.elapsed.0 ∷ r.alternates)

unfoldable pub fits16plan : List ℕ → Bool
fits16plan s = joined elapsed_hours (first (split 32 s)) && few_aerodromes most_alternates (others (split 32 s))

abbrev pub record16plan : List ℕ → Field16Plan
record16plan s =
    record {
      destination = aerodrome_of (first (split 32 s));
      elapsed = elapsed_of (joined_of (first (split 32 s)));
      alternates = others (split 32 s);
    }

abbrev pub field16plan : Field
field16plan =
    record { Record = Field16Plan; valid = valid16plan; spell = spell16plan; fits = fits16plan; record_of = record16plan; canonical = λ r. r }

-- FIELD 16 AS AN ENTRY OF A CHG: four letters alone, a bare new destination, or its form in FPL; the record says which

pub data Field16Entry : Type 0 where
  bare : Field16 → Field16Entry
  whole : Field16Plan → Field16Entry

abbrev pub valid16entry : Field16Entry → Bool
valid16entry (bare r) = valid16 r
valid16entry (whole r) = valid16plan r

abbrev pub spell16entry : Field16Entry → List ℕ
spell16entry (bare r) = spell16 r
spell16entry (whole r) = spell16plan r

abbrev pub fits16entry : List ℕ → Bool
fits16entry s = fits16 s || fits16plan s

abbrev pub record16entry : List ℕ → Field16Entry
record16entry s = cond (fits16 s) (bare (record16 s)) (whole (record16plan s))

abbrev pub field16entry : Field
field16entry =
    record { Record = Field16Entry; valid = valid16entry; spell = spell16entry; fits = fits16entry; record_of = record16entry; canonical = λ r. r }

-- EXAMPLES, computed

alone_16 : (fits16 (bytes "EDDF") ≡ true) × (fits16 (bytes "EDDF0100") ≡ false) × (fits16 (bytes "EDDF ") ≡ false) × (fits16 [] ≡ false)
unfolding four_letters
alone_16 = (refl, refl, refl, refl)

planned_16 : (fits16plan (bytes "EDDF0100") ≡ true) × (fits16plan (bytes "EDDF0100 EDDK") ≡ true) × (fits16plan (bytes "EDDF0100 EDDK EDDL") ≡ true)
unfolding fits16plan joined four_letters time_fits
planned_16 = (refl, refl, refl)

refused_16 : (fits16plan (bytes "EDDF0100 EDDK EDDL EDDM") ≡ false) × (fits16plan (bytes "EDDF0100 ") ≡ false) × (fits16plan (bytes "EDDF 0100") ≡ false)
    × (fits16plan (bytes "EDDF0100 EDD") ≡ false) × (fits16plan (bytes "EDDF0060") ≡ false) × (fits16plan (bytes "EDDF") ≡ false) × (fits16plan [] ≡ false)
unfolding fits16plan joined four_letters time_fits
refused_16 = (refl, refl, refl, refl, refl, refl, refl)

read_16 : record16plan (bytes "EDDF0100 EDDK EDDL")
    ≡ record { destination = bytes "EDDF"; elapsed = record { 0 = 60 }; alternates = bytes "EDDK" ∷ (bytes "EDDL" ∷ []) }
read_16 = refl

-- an elapsed time of more than a day
long_16 : (fits16plan (bytes "EDDF2600") ≡ true) × (fits16plan (bytes "EDDF9959") ≡ true) × (fits16plan (bytes "EDDF9960") ≡ false)
    × (record16plan (bytes "EDDF2600") ≡ record { destination = bytes "EDDF"; elapsed = record { 0 = 1560 }; alternates = [] })
unfolding fits16plan joined four_letters time_fits
long_16 = (refl, refl, refl, refl)

entered_16 : (fits16entry (bytes "EDDN") ≡ true) × (fits16entry (bytes "EDDN0100 EDDK") ≡ true) × (fits16entry (bytes "EDDN EDDK") ≡ false)
    × (fits16entry (bytes "EDD") ≡ false) × (fits16entry (bytes "EDDN0") ≡ false) × (fits16entry (bytes "EDD1") ≡ false) × (fits16entry [] ≡ false)
unfolding fits16plan joined four_letters time_fits
entered_16 = (refl, refl, refl, refl, refl, refl, refl)

told_16 : (record16entry (bytes "EDDN") ≡ bare (record { destination = bytes "EDDN" }))
    × (record16entry (bytes "EDDN0100") ≡ whole (record { destination = bytes "EDDN"; elapsed = record { 0 = 60 }; alternates = [] }))
unfolding four_letters
told_16 = (refl, refl)
