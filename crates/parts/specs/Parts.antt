-- The parts of a message that is its own spelling: where a field stands, by its number, and of a plan the parts that the desk works with, by the
-- records of its fields. Assumes nothing.
use Rattle.std.specs.Prelude.{ℕ, suc, ◌+◌, ◌≤◌, ◌≡◌, refl, Bool, true, false, cond, List, [], map, ltb, length, take, drop, get_or}
use Rattle.std.specs.Prelude.{Some, None, Result, Ok, Err}
use Rattle.alphabet.specs.Text.{bytes}
use Rattle.alphabet.specs.Alphabet.{white}
use Rattle.text.specs.Words.{Word, same, up_to, holds}
use Rattle.space.specs.Reduced.{opens, closes, stands_for_run, reduced_from, reduced}
use Rattle.space.specs.Fields.{inner}
use Rattle.space.specs.Hyphens.{hyphens, behind_hyphen}
use Rattle.outer.specs.Outer.{most}
use Rattle.sent.specs.Sent.{contents}
use Rattle.head.specs.Field7.{record7}
use Rattle.head.specs.Field9.{number, record9}
use Rattle.aerodromes.specs.Field13.{Field13, record13}
use Rattle.aerodromes.specs.Field16.{Field16Plan, record16plan}
use Rattle.shape.specs.Shape.{letters}
use Rattle.other.specs.Rules.{days_in, date}
use Rattle.other.specs.Field18.{words_under}
use Rattle.dates.specs.Dates.{date_in, flight_date}
use Rattle.kinds.specs.declared.MessageType.{MessageType}
use Rattle.kinds.specs.declared.MessageType.TheVariants.{Fpl, Chg, Cnl}
use Rattle.kinds.specs.Kinds.{least_of, greatest_of, forms_of, number_of, plan_forms, brief_forms, plan7, plan9, plan13, plan16, plan18}
use Rattle.records.specs.Records.{fit_all}
use Rattle.message.specs.Answer.{Answer}
use Rattle.message.specs.Reading.{count_of, is_plan, spelling_of, answer_of}
use Rattle.message.specs.Message.{fields_of}
use Rattle.force.specs.InForce.{place_of}
use Rattle.force.specs.declared.Span.{Span}
use Rattle.outer.specs.declared.Refusal.{Refusal}
use Rattle.parts.specs.declared.Aircraft.{Aircraft}
use Rattle.parts.specs.declared.OffBlock.{OffBlock}
use Rattle.parts.specs.declared.Destination.{Destination}
use Rattle.parts.specs.declared.PlanParts.{PlanParts}
use Rattle.outer.specs.Refusal.{refusal}

-- HOW A MESSAGE IS TAKEN: as its type, and whether it is its own spelling; or reading's refusal

abbrev pub Taken : Type 0
Taken = Result (MessageType × Bool) Refusal

abbrev pub taken_as : Answer → List ℕ → Taken
taken_as (Ok (t, n)) m = Ok (t, same (spelling_of t m) m)
taken_as (Err r) m = Err r

unfoldable pub taken_of : List ℕ → Taken
taken_of m = taken_as (answer_of m most) m

-- what is known of a message that was taken as a type and is its own spelling
pub record Own (t : MessageType) (m : List ℕ) : Type 0 where
  pub two : 2 ≤ length m
  pub short : length m ≤ most
  pub stays : reduced m ≡ m
  pub least : least_of t ≤ count_of m
  pub greatest : count_of m ≤ greatest_of t
  pub fit : fit_all (fields_of t (count_of m)) (contents m) ≡ true

-- A FIELD BY ITS NUMBER: where its content stands, or the refusal

abbrev pub Part : Type 0
Part = Result Span Refusal

-- the content of field j, counted from 0, as it is read
abbrev pub content_in : List ℕ → ℕ → Word
content_in m j = get_or (contents m) j []

-- where it begins: the text between the parentheses begins one byte behind the message
abbrev pub field_from : List ℕ → ℕ → ℕ
field_from m j = suc (place_of (inner m) j)

-- as many bytes as a word has
abbrev pub span_of : ℕ → Word → Span
span_of from w = record { from = from; to = from + length w }

abbrev pub span_at : List ℕ → ℕ → Span
span_at m j = span_of (field_from m j) (content_in m j)

-- the numbers of a message's fields, in order, and the place of the first of a number
abbrev pub numbers_in : MessageType → List ℕ → List ℕ
numbers_in t m = map number_of (forms_of t (count_of m))

abbrev pub rank_in : MessageType → List ℕ → ℕ → ℕ
rank_in t m n = up_to n (numbers_in t m)

-- 8, with the number asked as its field
unfoldable pub field_in : MessageType → List ℕ → ℕ → Part
field_in t m n = cond (holds n (numbers_in t m)) (Ok (span_at m (rank_in t m n))) (Err (refusal 8 n 0))

-- 17: it is not its own spelling
abbrev pub field_as : Taken → List ℕ → ℕ → Part
field_as (Ok (t, own)) m n = cond own (field_in t m n) (Err (refusal 17 0 0))
field_as (Err r) m n = Err r

unfoldable pub field_of : List ℕ → ℕ → Part
field_of m n = field_as (taken_of m) m n

-- the content that is asked for
abbrev pub asked_by : Taken → List ℕ → ℕ → Word
asked_by (Ok (t, own)) m n = content_in m (rank_in t m n)
asked_by (Err r) m n = []

abbrev pub content_asked : List ℕ → ℕ → Word
content_asked m n = asked_by (taken_of m) m n

-- THE PARTS OF A PLAN, or the refusal

abbrev pub Planned : Type 0
Planned = Result PlanParts Refusal

-- each from its field's content, which begins at a place of the message

-- 9: the type stands behind the number
abbrev pub aircraft_as : ℕ → List ℕ → Aircraft
aircraft_as from s = record { count = (record9 s).count; kind = span_of (from + length (number s)) (record9 s).type }

-- 13: the aerodrome stands first
abbrev pub off_block_as : ℕ → Field13 → OffBlock
off_block_as from r = record { aerodrome = from; time = r.time }

-- 16: the destination stands first; an alternate behind its time and a space, a second one behind the first and a space
abbrev pub place_if : Bool → ℕ → ℕ
place_if there place = cond there place 0

abbrev pub destination_as : ℕ → Field16Plan → Destination
destination_as from r =
    record {
      aerodrome = from;
      elapsed = r.elapsed;
      alternates = length r.alternates;
      first = place_if (ltb 0 (length r.alternates)) (from + 9);
      second = place_if (ltb 1 (length r.alternates)) (from + 14);
    }

unfoldable pub plan_of : List ℕ → PlanParts
plan_of m =
    record {
      identification = span_of (field_from m plan7) (record7 (content_in m plan7)).identification;
      aircraft = aircraft_as (field_from m plan9) (content_in m plan9);
      departure = off_block_as (field_from m plan13) (record13 (content_in m plan13));
      destination = destination_as (field_from m plan16) (record16plan (content_in m plan16));
      date = flight_date (date_in (content_in m plan18));
    }

-- 14: it is no FPL; 17: it is not its own spelling
abbrev pub planned_as : Taken → List ℕ → Planned
planned_as (Ok (t, own)) m = cond (is_plan t) (cond own (Ok (plan_of m)) (Err (refusal 17 0 0))) (Err (refusal 14 0 0))
planned_as (Err r) m = Err r

unfoldable pub planned_of : List ℕ → Planned
planned_of m = planned_as (taken_of m) m

-- EXAMPLES, computed

abbrev plan : List ℕ
plan = bytes "(FPL-ABC12-IS-B738/M-SDFG/S-EHAM0930-N0440F310 DCT PAM DCT-EDDF0100 EDDK-0)"

abbrev chg : List ℕ
chg = bytes "(CHG-ABC12-EHAM0930-EDDF-0-9/B39M/M-8/IN)"

-- fields 3, 9 and 18 of the plan; it has no field 22, and no message has one of 0; the first entry of the CHG, and its own field 18
fields : (field_in Fpl plan 3 ≡ Ok (record { from = 1; to = 4 })) × (field_in Fpl plan 9 ≡ Ok (record { from = 14; to = 20 }))
    × (field_in Fpl plan 18 ≡ Ok (record { from = 73; to = 74 })) × (field_in Fpl plan 22 ≡ Err (refusal 8 22 0)) × (field_in Fpl plan 0 ≡ Err (refusal 8 0 0))
    × (field_in Chg chg 22 ≡ Ok (record { from = 27; to = 35 })) × (field_in Chg chg 18 ≡ Ok (record { from = 25; to = 26 }))
    × (field_in Chg chg 9 ≡ Err (refusal 8 9 0))
unfolding field_in forms_of plan_forms brief_forms hyphens behind_hyphen reduced reduced_from stands_for_run opens closes white
fields = (refl, refl, refl, refl, refl, refl, refl, refl)

-- what stands there
shown : (take 6 (drop 14 plan) ≡ bytes "B738/M") × (take 8 (drop 27 chg) ≡ bytes "9/B39M/M")
shown = (refl, refl)

-- not its own spelling; another type than FPL, whether it is its own spelling or not; not read
refused : (field_as (Ok (Cnl, false)) (bytes "(CNL)") 7 ≡ Err (refusal 17 0 0)) × (planned_as (Ok (Fpl, false)) (bytes "(FPL)") ≡ Err (refusal 17 0 0))
    × (planned_as (Ok (Cnl, true)) (bytes "(CNL)") ≡ Err (refusal 14 0 0)) × (planned_as (Ok (Cnl, false)) (bytes "(CNL)") ≡ Err (refusal 14 0 0))
    × (field_as (Err (refusal 7 13 16)) (bytes "(CNL)") 7 ≡ Err (refusal 7 13 16))
    × (planned_as (Err (refusal 7 13 16)) (bytes "(CNL)") ≡ Err (refusal 7 13 16))
refused = (refl, refl, refl, refl, refl, refl)

-- the parts of the plan, and of one with more of them
parts : plan_of plan
    ≡ record {
      identification = record { from = 5; to = 10 };
      aircraft = record { count = 1; kind = record { from = 14; to = 18 } };
      departure = record { aerodrome = 28; time = record { 0 = 570 } };
      destination = record { aerodrome = 59; elapsed = record { 0 = 60 }; alternates = 1; first = 68; second = 0 };
      date = None;
    }
unfolding plan_of words_under date days_in letters behind_hyphen reduced reduced_from stands_for_run opens closes white
parts = refl

more_parts : plan_of (bytes "(FPL-ABC12/A7777-IS-12FK27/M-S/S-EHAM2359-N0440F310 DCT-EDDF0100 EDDK EDDL-STS/HOSP DOF/240229 RMK/A)")
    ≡ record {
      identification = record { from = 5; to = 10 };
      aircraft = record { count = 12; kind = record { from = 22; to = 26 } };
      departure = record { aerodrome = 33; time = record { 0 = 1439 } };
      destination = record { aerodrome = 56; elapsed = record { 0 = 60 }; alternates = 2; first = 65; second = 70 };
      date = Some (record { year = 2024; month = 2; day = 29 });
    }
unfolding plan_of words_under date days_in letters behind_hyphen reduced reduced_from stands_for_run opens closes white
more_parts = refl
