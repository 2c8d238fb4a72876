-- Reading a message (document 01, "Numbers given back"): the answer, and every byte of the output, from the bytes sent and the room lent.
-- Assumes nothing.
use Rattle.std.specs.Prelude.{ℕ, suc, ◌+◌, ◌-◌, ◌≤◌, ◌≡◌, Bool, true, false, cond, ◌&&◌, List, [], ◌∷◌, ◌++◌, Ok, Err, eqb, ltb, length, take, drop, get_or}
use Rattle.alphabet.specs.Alphabet.{one_of}
use Rattle.text.specs.Words.{Word, split, before, same}
use Rattle.text.specs.Lent.{front}
use Rattle.space.specs.Reduced.{reduced}
use Rattle.space.specs.Fields.{inner}
use Rattle.space.specs.Hyphens.{hyphens, place_of_hyphen, behind_hyphen}
use Rattle.space.specs.Places.{sent_place}
use Rattle.sent.specs.Sent.{contents}
use Rattle.outer.specs.Refusal.{refusal, Checked}
use Rattle.outer.specs.Outer.{most, outer}
use Rattle.kinds.specs.declared.MessageType.{MessageType}
use Rattle.kinds.specs.declared.Role.{Role}
use Rattle.kinds.specs.declared.Role.TheVariants.{Files, Changes, Delays, Cancels, Departs, Arrives, Neither}
use Rattle.kinds.specs.declared.Form.{Form}
use Rattle.kinds.specs.Kinds.{Named, least_of, greatest_of, role_of, forms_of, form_at, number_of, plan9, plan13, plan16, plan18, type_named, type_refusal}
use Rattle.forms.specs.Forms.{rank_in, fault_of, written_of}
use Rattle.form_places.specs.Places.{place_in}
use Rattle.plan.specs.Unexplained.{unexplained}
use Rattle.message.specs.Answer.{fault_at, Fault, Answer}

-- THE FIELDS of a message, and its spelling

-- what stands between the parentheses, white space reduced; it is cut at its hyphens into the fields' contents
abbrev pub text_of : List ℕ → List ℕ
text_of m = inner (reduced m)

-- how many fields: one more than there are hyphens
abbrev pub count_of : List ℕ → ℕ
count_of m = hyphens m + 1

-- the spelling of fields, the first behind this byte and the others behind hyphens, up to the closing parenthesis
abbrev pub spelled_from : ℕ → List Form → List Word → List ℕ
spelled_from lead [] cs = 41 ∷ []
spelled_from lead (f ∷ fs) [] = 41 ∷ []
spelled_from lead (f ∷ fs) (c ∷ cs) = (lead ∷ written_of f c) ++ spelled_from 45 fs cs

abbrev pub lead_of : ℕ → ℕ
lead_of j = cond (eqb j 0) 40 45

-- the spelling of a message of a type
unfoldable pub spelling_of : MessageType → List ℕ → List ℕ
spelling_of t m = spelled_from 40 (forms_of t (count_of m)) (contents m)

-- NUMBERS 7, 8 AND 9: the leftmost field that has one

-- the fields from place j on; the earlier ones named fields of these ranks
abbrev pub fault_from : List ℕ → ℕ → List Form → List Word → Fault
fault_from earlier j [] cs = Ok tt
fault_from earlier j (f ∷ fs) [] = Ok tt
fault_from earlier j (f ∷ fs) (c ∷ cs) =
    cond (eqb (fault_of (one_of (rank_in f c) earlier) f c) 0)
    (fault_from (rank_in f c ∷ earlier) (suc j) fs cs)
    (Err (fault_at (fault_of (one_of (rank_in f c) earlier) f c) j))

unfoldable pub fault_in : MessageType → ℕ → List Word → Fault
fault_in t n cs = fault_from [] 0 (forms_of t n) cs

-- the content of field j: what stands behind the j-th hyphen, up to the next
abbrev pub content_of : ℕ → List ℕ → Word
content_of j m = before 45 (behind_hyphen j (text_of m))

-- where field j of a message does not fit: the first byte, as sent, at which no content that fits its form could go on
unfoldable pub place_of7 : MessageType → ℕ → List ℕ → ℕ
place_of7 t j m = sent_place j (place_in (form_at t (count_of m) j) (content_of j m)) m

abbrev pub place_of_fault : ℕ → MessageType → ℕ → List ℕ → ℕ
place_of_fault number t j m = cond (eqb number 7) (place_of7 t j m) (place_of_hyphen j m)

-- NUMBER 10: the field of an FPL that is left unexplained; 0 for none, and in other types

abbrev pub files : Role → Bool
files Files = true
files Changes = false
files Delays = false
files Cancels = false
files Departs = false
files Arrives = false
files Neither = false

abbrev pub is_plan : MessageType → Bool
is_plan t = files (role_of t)

-- by the nine contents of a plan
abbrev pub unexplained_in : List Word → ℕ
unexplained_in cs = unexplained (get_or cs plan9 []) (get_or cs plan13 []) (get_or cs plan16 []) (get_or cs plan18 [])

abbrev pub place_in_plan : ℕ → ℕ
place_in_plan field = cond (eqb field 9) plan9 (cond (eqb field 13) plan13 plan16)

-- THE ANSWER

-- 11
abbrev pub room_as : MessageType → List ℕ → ℕ → Answer
room_as t m room = cond (ltb room (length (spelling_of t m))) (Err (refusal 11 0 0)) (Ok (t, length (spelling_of t m)))

-- 10
abbrev pub explained_as : ℕ → MessageType → List ℕ → ℕ → Answer
explained_as field t m room = cond (eqb field 0) (room_as t m room) (Err (refusal 10 field (place_of_hyphen (place_in_plan field) m)))

-- 7, 8, 9
abbrev pub fault_as : Fault → MessageType → List ℕ → ℕ → Answer
fault_as (Err r) t m room = Err (refusal r.number (number_of (form_at t (count_of m) r.field)) (place_of_fault r.number t r.field m))
fault_as (Ok u) t m room = explained_as (cond (is_plan t) (unexplained_in (contents m)) 0) t m room

abbrev pub fields_as : MessageType → List ℕ → ℕ → Answer
fields_as t m room = fault_as (fault_in t (count_of m) (contents m)) t m room

-- 6
unfoldable pub count_as : MessageType → List ℕ → ℕ → Answer
count_as t m room =
    cond (ltb (count_of m) (least_of t)) (Err (refusal 6 0 (length m - 1)))
    (cond (ltb (greatest_of t) (count_of m)) (Err (refusal 6 0 (place_of_hyphen (greatest_of t) m)))
    (fields_as t m room))

-- what has been checked of a message of a type before its fields are read; s is its text, in a scratch
pub record Counted (t : MessageType) (m : List ℕ) (count : ℕ) (s : List ℕ) : Type 0 where
  pub count_is : count ≡ count_of m
  pub text_is : s ≡ text_of m
  pub short : length s ≤ most
  pub even : length (forms_of t count) ≡ length (split 45 s)

-- 4 and 5: the three bytes after `(`, as sent
abbrev pub type_as : Named → List ℕ → ℕ → Answer
type_as (Err fault) m room = Err (type_refusal fault)
type_as (Ok t) m room = count_as t m room

abbrev pub three : List ℕ → Word
three m = take 3 (drop 1 m)

-- 1 to 3
abbrev pub outer_as : Checked → List ℕ → ℕ → Answer
outer_as (Err r) m room = Err r
outer_as (Ok u) m room = type_as (type_named (three m)) m room

unfoldable pub answer_of : List ℕ → ℕ → Answer
answer_of m room = outer_as (outer m) m room

-- THE OUTPUT: a refusal leaves it as it stood; acceptance writes the spelling at its front, and the bytes behind it stay

abbrev pub written_as : Answer → List ℕ → List ℕ → List ℕ
written_as (Ok (t, n)) m out = front (spelling_of t m) out
written_as (Err r) m out = out

unfoldable pub out_after : List ℕ → List ℕ → List ℕ
out_after m out = written_as (answer_of m (length out)) m out

-- A PLAN AS IT IS WRITTEN

abbrev pub plans : Answer → Bool
plans (Ok (t, n)) = is_plan t
plans (Err r) = false

-- accepted as a plan, with the most room that a message needs, and its own reduction
unfoldable pub plan_itself : List ℕ → Bool
plan_itself m = plans (answer_of m most) && same (reduced m) m
