-- What the places that were given back say of the bytes that stand there: they are the content that was asked for, and the words of the records of
-- the plan's fields. Assumes nothing.
use Rattle.std.specs.Prelude.{ℕ, ◌+◌, ◌-◌, ◌≤◌, ◌<◌, ◌≡◌, true, List, [], ◌∷◌, length, take, drop, get_or, Ok, Err}
use Rattle.text.specs.Words.{Word}
use Rattle.shape.specs.Field.{Field}
use Rattle.head.specs.Field3.{field3}
use Rattle.head.specs.Field7.{Field7, record7, field7}
use Rattle.head.specs.Field8.{field8}
use Rattle.head.specs.Field9.{Field9, record9, field9}
use Rattle.equipment.specs.Field10.{field10, present}
use Rattle.aerodromes.specs.Field13.{Field13, record13, field13}
use Rattle.aerodromes.specs.Field16.{Field16Plan, record16plan, field16plan}
use Rattle.route.specs.Field15.{field15}
use Rattle.other.specs.Field18.{Field18, spell18, field18}
use Rattle.dates.specs.Dates.{date_in, flight_date}
use Rattle.kinds.specs.declared.MessageType.{MessageType}
use Rattle.kinds.specs.declared.MessageType.TheVariants.{Fpl}
use Rattle.kinds.specs.Kinds.{forms_of, form_at, number_of, plan_forms, plan7, plan9, plan13, plan16}
use Rattle.records.specs.Records.{Records}
use Rattle.forms.specs.Forms.{field_of as form_of}
use Rattle.message.specs.Reading.{count_of}
use Rattle.message.specs.Message.{Message, spelling}
use Rattle.force.specs.declared.Span.{Span}
use Rattle.parts.specs.Parts.{Part, Planned, taken_of, content_in, planned_of}
use Rattle.parts.specs.declared.PlanParts.{PlanParts}

-- this word stands at these places of a message
pub record Holds (m : List ℕ) (s : Span) (w : Word) : Type 0 where
  pub ordered : s.from ≤ s.to
  pub inside : s.to ≤ length m
  pub there : take (s.to - s.from) (drop s.from m) ≡ w

-- a field's content
abbrev pub Shows : Part → List ℕ → Word → Type 0
Shows (Ok s) m w = Holds m s w
Shows (Err r) m w = Unit

-- four letters that begin at a place
abbrev pub four : ℕ → Span
four from = record { from = from; to = from + 4 }

-- what the parts say of the records of a plan's fields 7, 9, 13 and 16: each word where it stands, each number as it is
pub record PlanShown (m : List ℕ) (r7 : Field7) (r9 : Field9) (r13 : Field13) (r16 : Field16Plan) (p : PlanParts) : Type 0 where
  pub identification : Holds m p.identification r7.identification
  pub count : p.aircraft.count ≡ r9.count
  pub kind : Holds m p.aircraft.kind r9.type
  pub departure : Holds m (four p.departure.aerodrome) r13.aerodrome
  pub time : p.departure.time ≡ r13.time
  pub destination : Holds m (four p.destination.aerodrome) r16.destination
  pub elapsed : p.destination.elapsed ≡ r16.elapsed
  pub alternates : p.destination.alternates ≡ length r16.alternates
  pub first : 1 ≤ length r16.alternates → Holds m (four p.destination.first) (get_or r16.alternates 0 [])
  pub second : 2 ≤ length r16.alternates → Holds m (four p.destination.second) (get_or r16.alternates 1 [])

-- of the contents that were read
abbrev pub ShowsPlan : Planned → List ℕ → Type 0
ShowsPlan (Ok p) m =
    PlanShown m (record7 (content_in m plan7)) (record9 (content_in m plan9)) (record13 (content_in m plan13)) (record16plan (content_in m plan16)) p
ShowsPlan (Err r) m = Unit

-- THE RECORD OF A PLAN: those of its nine fields

abbrev pub plan_fields : List Field
plan_fields =
    field3 ∷ (field7 ∷ (field8 ∷ (field9 ∷ (field10 present ∷ (field13 ∷ (field15 ∷ (field16plan ∷ (field18 ∷ []))))))))

unfoldable pub plan_message : Records plan_fields → Message
unfolding forms_of plan_forms
plan_message rs = record { type = Fpl; count = 9; fields = rs }

abbrev pub seven_of : Records plan_fields → Field7
seven_of rs = rs.1.0

abbrev pub nine_of : Records plan_fields → Field9
nine_of rs = rs.1.1.1.0

abbrev pub thirteen_of : Records plan_fields → Field13
thirteen_of rs = rs.1.1.1.1.1.0

abbrev pub sixteen_of : Records plan_fields → Field16Plan
sixteen_of rs = rs.1.1.1.1.1.1.1.0

abbrev pub eighteen_of : Records plan_fields → Field18
eighteen_of rs = rs.1.1.1.1.1.1.1.1.0

-- of the message that a record is written as, the record's parts are told
pub record PlanTold (rs : Records plan_fields) : Type 0 where
  pub told : PlanParts
  pub given : planned_of (spelling (plan_message rs)) ≡ Ok told
  pub shown : PlanShown (spelling (plan_message rs)) (seven_of rs) (nine_of rs) (thirteen_of rs) (sixteen_of rs) told
  pub date : told.date ≡ flight_date (date_in (spell18 (eighteen_of rs)))

-- THE FIELD OF A NUMBER: the message's first of that number, whose content is one of that field's form

pub record FieldTold (m : List ℕ) (n : ℕ) (s : Span) : Type 0 where
  pub type : MessageType
  pub taken : taken_of m ≡ Ok (type, true)
  pub place : ℕ
  pub inside : place < count_of m
  pub numbered : number_of (form_at type (count_of m) place) ≡ n
  pub first : (i : ℕ) → i < place → number_of (form_at type (count_of m) i) ≡ n → ⊥
  pub fits : (form_of (form_at type (count_of m) place)).fits (content_in m place) ≡ true
  pub there : Holds m s (content_in m place)
