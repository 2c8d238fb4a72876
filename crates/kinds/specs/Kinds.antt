-- The message types: a row for each, with its name, its counts, its fields (document 01, "Which fields, in order") and its role ("The strip").
-- Assumes nothing.
use Rattle.std.specs.Prelude.{ℕ, zero, suc, ◌-◌, ◌<◌, ◌≤◌, ◌≡◌, refl, cond, List, [], ◌∷◌, ◌++◌, map, Result, Ok, Err, eqb, get_or}
use Rattle.alphabet.specs.Text.{bytes}
use Rattle.text.specs.Words.{Word, split, rank}
use Rattle.head.specs.Field3.{types}
use Rattle.kinds.specs.declared.MessageType.{MessageType}
use Rattle.kinds.specs.declared.MessageType.TheVariants.{Fpl, Chg, Cnl, Dla, Dep, Arr, Rqp, Rqs, Spl}
use Rattle.kinds.specs.declared.Role.{Role}
use Rattle.kinds.specs.declared.Role.TheVariants.{Files, Changes, Delays, Cancels, Departs, Arrives, Neither}
use Rattle.kinds.specs.declared.Form.{Form}
use Rattle.kinds.specs.declared.Form.TheVariants.{Field3, Field7, Field8, Field9, Field10, Field13, Field13Open, Field15}
use Rattle.kinds.specs.declared.Form.TheVariants.{Field16, Field16Plan, Field17, Field18, Field19, Field22}
use Rattle.outer.specs.declared.Refusal.{Refusal}
use Rattle.outer.specs.Refusal.{refusal}
use Rattle.kinds.specs.declared.TypeFault.{TypeFault}
use Rattle.kinds.specs.declared.TypeFault.TheVariants.{NotRead, NoType}

-- FIELDS, in order. Of field 13 and of field 16 there are two forms: 13 in RQP, where the time may be absent, is the open one, and 16 in FPL
-- and SPL, with elapsed time and alternates, is the plan's.

-- so many entries of field 22
abbrev pub entries : ℕ → List Form
entries zero = []
entries (suc n) = Field22 ∷ entries n

unfoldable pub plan_forms : List Form
plan_forms = Field3 ∷ Field7 ∷ Field8 ∷ Field9 ∷ Field10 ∷ Field13 ∷ Field15 ∷ Field16Plan ∷ Field18 ∷ []

-- CNL, DLA, DEP, RQS; in a CHG the entries follow
unfoldable pub brief_forms : List Form
brief_forms = Field3 ∷ Field7 ∷ Field13 ∷ Field16 ∷ Field18 ∷ []

unfoldable pub request_forms : List Form
request_forms = Field3 ∷ Field7 ∷ Field13Open ∷ Field16 ∷ Field18 ∷ []

-- ARR: with four fields 16 is absent
unfoldable pub arrival_forms : List Form
arrival_forms = Field3 ∷ Field7 ∷ Field13 ∷ Field17 ∷ []

unfoldable pub diverted_forms : List Form
diverted_forms = Field3 ∷ Field7 ∷ Field13 ∷ Field16 ∷ Field17 ∷ []

unfoldable pub supplement_forms : List Form
supplement_forms = Field3 ∷ Field7 ∷ Field13 ∷ Field16Plan ∷ Field18 ∷ Field19 ∷ []

-- A ROW FOR EACH TYPE

pub record Row : Type 0 where
  pub name : Word
  pub least : ℕ
  pub greatest : ℕ
  pub role : Role
  -- of a message with n fields
  pub forms : ℕ → List Form

abbrev pub row_of : MessageType → Row
row_of Fpl = record { name = bytes "FPL"; least = 9; greatest = 9; role = Files; forms = λ n. plan_forms }
row_of Chg = record { name = bytes "CHG"; least = 6; greatest = 13; role = Changes; forms = λ n. brief_forms ++ entries (n - 5) }
row_of Cnl = record { name = bytes "CNL"; least = 5; greatest = 5; role = Cancels; forms = λ n. brief_forms }
row_of Dla = record { name = bytes "DLA"; least = 5; greatest = 5; role = Delays; forms = λ n. brief_forms }
row_of Dep = record { name = bytes "DEP"; least = 5; greatest = 5; role = Departs; forms = λ n. brief_forms }
row_of Arr = record { name = bytes "ARR"; least = 4; greatest = 5; role = Arrives; forms = λ n. cond (eqb n 4) arrival_forms diverted_forms }
row_of Rqp = record { name = bytes "RQP"; least = 5; greatest = 5; role = Neither; forms = λ n. request_forms }
row_of Rqs = record { name = bytes "RQS"; least = 5; greatest = 5; role = Neither; forms = λ n. brief_forms }
row_of Spl = record { name = bytes "SPL"; least = 6; greatest = 6; role = Neither; forms = λ n. supplement_forms }

abbrev pub name_of : MessageType → Word
name_of t = (row_of t).name

abbrev pub least_of : MessageType → ℕ
least_of t = (row_of t).least

abbrev pub greatest_of : MessageType → ℕ
greatest_of t = (row_of t).greatest

-- what a message of a type does to a strip
abbrev pub role_of : MessageType → Role
role_of t = (row_of t).role

-- the forms of a message of a type with n fields
unfoldable pub forms_of : MessageType → ℕ → List Form
forms_of t n = (row_of t).forms n

-- the form of field j, counted from 0
unfoldable pub form_at : MessageType → ℕ → ℕ → Form
form_at t n j = get_or (forms_of t n) j Field22

-- the most fields that a message of any type may have
abbrev pub most_fields : ℕ
most_fields = 13

-- a row of so many forms: those of the fields in order, with entries behind the last one
abbrev pub RowFor : MessageType → ℕ → List Form → Type 0
RowFor t n fs = (j : ℕ) → (j < most_fields → get_or fs j Field3 ≡ form_at t n j) × (most_fields ≤ j → Field22 ≡ form_at t n j)

-- the number of a form's field
abbrev pub number_of : Form → ℕ
number_of Field3 = 3
number_of Field7 = 7
number_of Field8 = 8
number_of Field9 = 9
number_of Field10 = 10
number_of Field13 = 13
number_of Field13Open = 13
number_of Field15 = 15
number_of Field16 = 16
number_of Field16Plan = 16
number_of Field17 = 17
number_of Field18 = 18
number_of Field19 = 19
number_of Field22 = 22

-- WHERE A FIELD STANDS, counted from 0

-- in an FPL
abbrev pub plan3 : ℕ
plan3 = 0

abbrev pub plan7 : ℕ
plan7 = 1

abbrev pub plan8 : ℕ
plan8 = 2

abbrev pub plan9 : ℕ
plan9 = 3

abbrev pub plan10 : ℕ
plan10 = 4

abbrev pub plan13 : ℕ
plan13 = 5

abbrev pub plan15 : ℕ
plan15 = 6

abbrev pub plan16 : ℕ
plan16 = 7

abbrev pub plan18 : ℕ
plan18 = 8

-- in the types that update a strip; an ARR has 17 where the others have 18, and without field 16 in the place of 16. A CHG's entries begin behind
-- field 18.
abbrev pub brief7 : ℕ
brief7 = 1

abbrev pub brief13 : ℕ
brief13 = 2

abbrev pub brief16 : ℕ
brief16 = 3

abbrev pub brief17 : ℕ
brief17 = 4

abbrev pub brief18 : ℕ
brief18 = 4

abbrev pub first_entry : ℕ
first_entry = 5

-- NAMES

-- the types that are read, and the names of those that are not, as the list of standard types has them
unfoldable pub types_read : List MessageType
types_read = Fpl ∷ Chg ∷ Cnl ∷ Dla ∷ Dep ∷ Arr ∷ Rqp ∷ Rqs ∷ Spl ∷ []

unfoldable pub names_not_read : List Word
names_not_read = split 32 (bytes "ALR RCF CPL EST CDN ACP LAM")

-- what three bytes name: a type that is read, or why none
abbrev pub Named : Type 0
Named = Result MessageType TypeFault

-- the type of a rank among the standard types: 0 is none, and those behind the ones that are read are not read
unfoldable pub type_ranked : ℕ → Named
type_ranked k = get_or (Err NoType ∷ map Ok types_read) k (Err NotRead)

-- the type that the three bytes behind `(` name
unfoldable pub type_named : Word → Named
type_named w = type_ranked (rank w types)

-- the refusal, which names field 3: number 4 where they name none, number 5 where it is not read
abbrev pub type_refusal : TypeFault → Refusal
type_refusal NoType = refusal 4 3 0
type_refusal NotRead = refusal 5 3 0

-- THE ROLES: document 01's table of the strip, and the FPL that files it; the types that the table has not do nothing to a strip

roles : map {B = Word × Role} (λ (t : MessageType). (name_of t, role_of t)) types_read
    ≡ (bytes "FPL", Files)
    ∷ (bytes "CHG", Changes)
    ∷ (bytes "CNL", Cancels)
    ∷ (bytes "DLA", Delays)
    ∷ (bytes "DEP", Departs)
    ∷ (bytes "ARR", Arrives)
    ∷ (bytes "RQP", Neither)
    ∷ (bytes "RQS", Neither)
    ∷ (bytes "SPL", Neither)
    ∷ []
unfolding types_read
roles = refl

-- THE PLACES are those of document 01's table

plan_places : map (λ (j : ℕ). number_of (form_at Fpl 9 j)) (plan3 ∷ plan7 ∷ plan8 ∷ plan9 ∷ plan10 ∷ plan13 ∷ plan15 ∷ plan16 ∷ plan18 ∷ [])
    ≡ 3 ∷ 7 ∷ 8 ∷ 9 ∷ 10 ∷ 13 ∷ 15 ∷ 16 ∷ 18 ∷ []
unfolding form_at forms_of plan_forms
plan_places = refl

abbrev brief_places : MessageType → ℕ → List ℕ
brief_places t n = map (λ (j : ℕ). number_of (form_at t n j)) (brief7 ∷ brief13 ∷ brief16 ∷ [])

brief_places_lem : (brief_places Chg 6 ≡ 7 ∷ 13 ∷ 16 ∷ []) × (brief_places Dla 5 ≡ 7 ∷ 13 ∷ 16 ∷ []) × (brief_places Cnl 5 ≡ 7 ∷ 13 ∷ 16 ∷ [])
    × (brief_places Dep 5 ≡ 7 ∷ 13 ∷ 16 ∷ []) × (brief_places Arr 5 ≡ 7 ∷ 13 ∷ 16 ∷ []) × (brief_places Arr 4 ≡ 7 ∷ 13 ∷ 17 ∷ [])
unfolding form_at forms_of brief_forms arrival_forms diverted_forms
brief_places_lem = (refl, refl, refl, refl, refl, refl)

last_places : (form_at Arr 5 brief17 ≡ Field17) × (form_at Chg 6 first_entry ≡ Field22) × (form_at Chg 6 brief18 ≡ Field18) × (form_at Cnl 5 brief18 ≡ Field18)
    × (form_at Dla 5 brief18 ≡ Field18) × (form_at Dep 5 brief18 ≡ Field18)
unfolding form_at forms_of brief_forms diverted_forms
last_places = (refl, refl, refl, refl, refl, refl)

-- EXAMPLES, computed

counted : (least_of Chg ≡ 6) × (greatest_of Chg ≡ 13) × (least_of Arr ≡ 4) × (greatest_of Arr ≡ 5)
counted = (refl, refl, refl, refl)

-- a CHG of seven fields has two entries
changed : forms_of Chg 7 ≡ Field3 ∷ Field7 ∷ Field13 ∷ Field16 ∷ Field18 ∷ Field22 ∷ Field22 ∷ []
unfolding forms_of brief_forms
changed = refl

arrived : (map number_of (forms_of Arr 4) ≡ 3 ∷ 7 ∷ 13 ∷ 17 ∷ []) × (map number_of (forms_of Arr 5) ≡ 3 ∷ 7 ∷ 13 ∷ 16 ∷ 17 ∷ [])
unfolding forms_of arrival_forms diverted_forms
arrived = (refl, refl)

planned : map number_of (forms_of Fpl 9) ≡ 3 ∷ 7 ∷ 8 ∷ 9 ∷ 10 ∷ 13 ∷ 15 ∷ 16 ∷ 18 ∷ []
unfolding forms_of plan_forms
planned = refl

placed : (form_at Fpl 9 6 ≡ Field15) × (form_at Rqp 5 2 ≡ Field13Open) × (form_at Spl 6 5 ≡ Field19) × (form_at Chg 13 12 ≡ Field22)
unfolding form_at forms_of plan_forms request_forms supplement_forms brief_forms
placed = (refl, refl, refl, refl)

named : (type_named (bytes "CHG") ≡ Ok Chg) × (type_named (bytes "SPL") ≡ Ok Spl) × (type_named (bytes "ALR") ≡ Err NotRead)
    × (type_named (bytes "LAM") ≡ Err NotRead)
unfolding type_named type_ranked types_read types
named = (refl, refl, refl, refl)

not_named : (type_named (bytes "XYZ") ≡ Err NoType) × (type_named (bytes "FP") ≡ Err NoType) × (type_named (bytes "") ≡ Err NoType)
    × (type_named (bytes " FP") ≡ Err NoType)
unfolding type_named type_ranked types_read types
not_named = (refl, refl, refl, refl)
