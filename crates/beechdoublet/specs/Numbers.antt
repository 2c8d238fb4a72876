-- An answer as plain numbers, for callers in other languages (include/beechdoublet.h gives each number its name). Assumes nothing.
use Rattle.std.specs.Prelude.{ℕ, ◌≡◌, refl, ◌&&◌, cond, List, [], ◌∷◌, eqb, ltb, Option, Some, None, Ok, Err}
use Rattle.kinds.specs.declared.MessageType.{MessageType}
use Rattle.kinds.specs.declared.MessageType.TheVariants.{Fpl, Chg, Cnl, Dla, Dep, Arr, Rqp, Rqs, Spl}
use Rattle.message.specs.Answer.{Answer}
use Rattle.strip.specs.Updating.{Updated}
use Rattle.asked.specs.Asking.{Asked}
use Rattle.state.specs.declared.State.TheVariants.{Filed}
use Rattle.parts.specs.Parts.{Part, Planned}
use Rattle.dates.specs.declared.Date.{Date}
use Rattle.parts.specs.declared.PlanParts.{PlanParts}
use Rattle.outer.specs.Refusal.{refusal}
use Rattle.asked.specs.declared.Place.TheVariants.{InChange, InStrip}

-- THE TYPES, from 1 in document 01's order; 0 is none
abbrev pub type_number : MessageType → ℕ
type_number Fpl = 1
type_number Chg = 2
type_number Cnl = 3
type_number Dla = 4
type_number Dep = 5
type_number Arr = 6
type_number Rqp = 7
type_number Rqs = 8
type_number Spl = 9

-- READING: number, field, place, type, length. An accepted message has the number 0, a refused one the type 0

abbrev pub read_number : Answer → ℕ
read_number (Ok (t, n)) = 0
read_number (Err r) = r.number

abbrev pub read_numbers : Answer → List ℕ
read_numbers (Ok (t, n)) = 0 ∷ 0 ∷ 0 ∷ type_number t ∷ n ∷ []
read_numbers (Err r) = r.number ∷ r.field ∷ r.place ∷ 0 ∷ 0 ∷ []

-- AN UPDATE: number, field, place, length. An accepted message has the number 0; the new state stands beside these

abbrev pub update_number : Updated → ℕ
update_number (Ok (held, n)) = 0
update_number (Err r) = r.number

abbrev pub update_numbers : Updated → List ℕ
update_numbers (Ok (held, n)) = 0 ∷ 0 ∷ 0 ∷ n ∷ []
update_numbers (Err r) = r.number ∷ r.field ∷ r.place ∷ 0 ∷ []

-- THE FIELD IN FORCE: number, field, place, source (1 the strip, 2 the CHG, 0 where refused), from, to

abbrev pub asked_number : Asked → ℕ
asked_number (Ok (InStrip from to)) = 0
asked_number (Ok (InChange from to)) = 0
asked_number (Err r) = r.number

abbrev pub asked_numbers : Asked → List ℕ
asked_numbers (Ok (InStrip from to)) = 0 ∷ 0 ∷ 0 ∷ 1 ∷ from ∷ to ∷ []
asked_numbers (Ok (InChange from to)) = 0 ∷ 0 ∷ 0 ∷ 2 ∷ from ∷ to ∷ []
asked_numbers (Err r) = r.number ∷ r.field ∷ r.place ∷ 0 ∷ 0 ∷ 0 ∷ []

-- the answer with the number asked whole: one over 255 is asked for as 0, and an 8 for it has the number as it was asked
abbrev pub field_told : ℕ → ℕ → ℕ → ℕ
field_told asked number field = cond (ltb 255 asked && (eqb number 8 && eqb field 0)) asked field

abbrev pub asked_whole : ℕ → Asked → Asked
asked_whole asked (Ok (InStrip from to)) = Ok (InStrip from to)
asked_whole asked (Ok (InChange from to)) = Ok (InChange from to)
asked_whole asked (Err r) = Err (refusal r.number (field_told asked r.number r.field) r.place)

-- A FIELD BY ITS NUMBER: as the field in force, with the source 1

abbrev pub part_number : Part → ℕ
part_number (Ok s) = 0
part_number (Err r) = r.number

abbrev pub part_numbers : Part → List ℕ
part_numbers (Ok s) = 0 ∷ 0 ∷ 0 ∷ 1 ∷ s.from ∷ s.to ∷ []
part_numbers (Err r) = r.number ∷ r.field ∷ r.place ∷ 0 ∷ 0 ∷ 0 ∷ []

abbrev pub part_whole : ℕ → Part → Part
part_whole asked (Ok s) = Ok s
part_whole asked (Err r) = Err (refusal r.number (field_told asked r.number r.field) r.place)

-- THE PARTS OF A PLAN: number, field, place; 7: from, to; 9: how many, and the type's from, to; 13: aerodrome, off-block minute; 16: aerodrome,
-- elapsed minutes, how many alternates, the first, the second; 18: date known (1, or 0), year, month, day

abbrev pub date_numbers : Option Date → List ℕ
date_numbers (Some d) = 1 ∷ d.year ∷ d.month ∷ d.day ∷ []
date_numbers None = 0 ∷ 0 ∷ 0 ∷ 0 ∷ []

abbrev pub parts_numbers : PlanParts → List ℕ
parts_numbers p =
    0 ∷ 0 ∷ 0
    ∷ p.identification.from ∷ p.identification.to
    ∷ p.aircraft.count ∷ p.aircraft.kind.from ∷ p.aircraft.kind.to
    ∷ p.departure.aerodrome ∷ p.departure.time.0
    ∷ p.destination.aerodrome ∷ p.destination.elapsed.0 ∷ p.destination.alternates ∷ p.destination.first ∷ p.destination.second
    ∷ date_numbers p.date

abbrev pub plan_number : Planned → ℕ
plan_number (Ok p) = 0
plan_number (Err r) = r.number

abbrev pub plan_numbers : Planned → List ℕ
plan_numbers (Ok p) = parts_numbers p
plan_numbers (Err r) =
    r.number ∷ r.field ∷ r.place ∷ 0 ∷ 0 ∷ 0 ∷ 0 ∷ 0 ∷ 0 ∷ 0 ∷ 0 ∷ 0 ∷ 0 ∷ 0 ∷ 0 ∷ 0 ∷ 0 ∷ 0 ∷ 0 ∷ []

-- EXAMPLES, computed: the three messages of the listing (27 bytes accepted as a CNL; 7 in field 13 at 10; 5 in field 3 at 0), and an update
listed : (read_numbers (Ok (Cnl, 27)) ≡ 0 ∷ 0 ∷ 0 ∷ 3 ∷ 27 ∷ []) × (read_numbers (Err (refusal 7 13 16)) ≡ 7 ∷ 13 ∷ 16 ∷ 0 ∷ 0 ∷ [])
    × (read_numbers (Err (refusal 5 3 0)) ≡ 5 ∷ 3 ∷ 0 ∷ 0 ∷ 0 ∷ [])
listed = (refl, refl, refl)

offered : (update_numbers (Ok (record { state = Filed }, 77)) ≡ 0 ∷ 0 ∷ 0 ∷ 77 ∷ []) × (update_numbers (Err (refusal 12 0 0)) ≡ 12 ∷ 0 ∷ 0 ∷ 0 ∷ [])
offered = (refl, refl)

asked : (asked_numbers (Ok (InStrip 21 27)) ≡ 0 ∷ 0 ∷ 0 ∷ 1 ∷ 21 ∷ 27 ∷ []) × (asked_numbers (Ok (InChange 29 35)) ≡ 0 ∷ 0 ∷ 0 ∷ 2 ∷ 29 ∷ 35 ∷ [])
    × (asked_numbers (Err (refusal 8 22 0)) ≡ 8 ∷ 22 ∷ 0 ∷ 0 ∷ 0 ∷ 0 ∷ [])
asked = (refl, refl, refl)

-- 263, which ends like 7, and 22, which an entry of the CHG's has
whole : (asked_whole 263 (Err (refusal 8 0 0)) ≡ Err (refusal 8 263 0)) × (asked_whole 263 (Err (refusal 8 22 31)) ≡ Err (refusal 8 22 31))
    × (asked_whole 22 (Err (refusal 8 22 0)) ≡ Err (refusal 8 22 0)) × (asked_whole 263 (Err (refusal 15 0 0)) ≡ Err (refusal 15 0 0))
whole = (refl, refl, refl, refl)

-- field 9 of document 01's plan, and no field 263
numbered : (part_numbers (Ok (record { from = 14; to = 20 })) ≡ 0 ∷ 0 ∷ 0 ∷ 1 ∷ 14 ∷ 20 ∷ [])
    × (part_numbers (part_whole 263 (Err (refusal 8 0 0))) ≡ 8 ∷ 263 ∷ 0 ∷ 0 ∷ 0 ∷ 0 ∷ [])
numbered = (refl, refl)

-- a plan of two FK27 with two alternates and a date, and a refusal
parts : (plan_numbers
    (Ok
    (record {
      identification = record { from = 5; to = 10 };
      aircraft = record { count = 2; kind = record { from = 15; to = 19 } };
      departure = record { aerodrome = 28; time = record { 0 = 570 } };
      destination = record { aerodrome = 59; elapsed = record { 0 = 60 }; alternates = 2; first = 68; second = 73 };
      date = Some (record { year = 2024; month = 2; day = 29 });
    }))
    ≡ 0 ∷ 0 ∷ 0 ∷ 5 ∷ 10 ∷ 2 ∷ 15 ∷ 19 ∷ 28 ∷ 570 ∷ 59 ∷ 60 ∷ 2 ∷ 68 ∷ 73 ∷ 1 ∷ 2024 ∷ 2 ∷ 29 ∷ [])
    × (plan_numbers (Err (refusal 14 0 0)) ≡ 14 ∷ 0 ∷ 0 ∷ 0 ∷ 0 ∷ 0 ∷ 0 ∷ 0 ∷ 0 ∷ 0 ∷ 0 ∷ 0 ∷ 0 ∷ 0 ∷ 0 ∷ 0 ∷ 0 ∷ 0 ∷ 0 ∷ [])
parts = (refl, refl)
