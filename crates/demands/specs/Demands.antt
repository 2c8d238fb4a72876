-- The client's demands 1 and 2, said of a result of reading: the bytes sent, the output as it was lent, the answer, the output afterwards.
-- Assumes nothing.
use Rattle.std.specs.Prelude.{ℕ, ◌≤◌, ◌≡◌, refl, true, false, List, [], ◌∷◌, length, take, Ok, Err}
use Rattle.alphabet.specs.Alphabet.{one_of}
use Rattle.text.specs.Lent.{front}
use Rattle.places.specs.Place.{IsPlace}
use Rattle.space.specs.Places.{sent_place}
use Rattle.kinds.specs.declared.MessageType.{MessageType}
use Rattle.kinds.specs.Kinds.{form_at, number_of, type_named}
use Rattle.forms.specs.Forms.{field_of}
use Rattle.message.specs.Answer.{Answer}
use Rattle.message.specs.Reading.{count_of, content_of, three, answer_of, out_after}
use Rattle.message.specs.Message.{Message, canonical_message, spelling, valid_message, SentAs, accepts, Meets, Writes}
use Rattle.outer.specs.Refusal.{refusal}

-- A READER, by the results that it may give: for the bytes m and the output `out`, an answer and the output `after`

abbrev pub Reader : Type 1
Reader = List ℕ → List ℕ → Answer → List ℕ → Type 0

-- the results of `message::read`: what its contract says
pub record Reads (m out : List ℕ) (a : Answer) (after : List ℕ) : Type 0 where
  pub answer_is : a ≡ answer_of m (length out)
  pub output_is : after ≡ out_after m out

-- DEMAND 1. Any bytes at all get an answer. That reading never traps, never reads past an end and always ends is not said here: the kit
-- proves it of every function for the inputs that its `requires` allows, and `read` has no `requires`, so that no caller must look first.

-- number 7 points at the byte (document 02, request 4): the place is that of the first byte of the field's content, as sent, at which no
-- content that fits its form could go on, or the one just behind it
pub record Points (m : List ℕ) (field place : ℕ) : Type 0 where
  pub type : MessageType
  pub type_is : type_named (three m) ≡ Ok type
  -- which field, counted from 0, and the place in its content
  pub which : ℕ
  pub at : ℕ
  pub field_is : field ≡ number_of (form_at type (count_of m) which)
  pub is_place : IsPlace (field_of (form_at type (count_of m) which)).fits (content_of which m) at
  pub place_is : place ≡ sent_place which at m

-- the fields that a refusal may name: those that have forms, and 0 for none
unfoldable pub fields_named : List ℕ
fields_named = 0 ∷ 3 ∷ 7 ∷ 8 ∷ 9 ∷ 10 ∷ 13 ∷ 15 ∷ 16 ∷ 17 ∷ 18 ∷ 19 ∷ 22 ∷ []

fields_named_lem : (one_of 0 fields_named ≡ true) × (one_of 22 fields_named ≡ true) × (one_of 5 fields_named ≡ false) × (one_of 14 fields_named ≡ false)
unfolding fields_named
fields_named_lem = (refl, refl, refl, refl)

-- a message that is not taken gets one of reading's numbers, a field and a place in it or at its end; every byte of the output stays
pub record Refusal (m out : List ℕ) (number field place : ℕ) (after : List ℕ) : Type 0 where
  pub least : 1 ≤ number
  pub greatest : number ≤ 11
  pub named : one_of field fields_named ≡ true
  pub inside : place ≤ length m
  pub points : number ≡ 7 → Points m field place
  pub stays : after ≡ out

pub data Demand1 (m out : List ℕ) (a : Answer) (after : List ℕ) : Type 0 where
  accepted : (t : MessageType) (n : ℕ) → a ≡ Ok (t, n) → Demand1 m out a after
  refused : (number field place : ℕ) → a ≡ Err (refusal number field place) → Refusal m out number field place after → Demand1 m out a after

-- DEMAND 2

-- M is a record that the forms allow for the message m: there is a valid record of which m was sent, with white space as it may be sent, in at
-- most 1,800 bytes, and M is that record as it is kept. The two differ only in field 19, which is kept in its order
pub record IsRecord (M : Message) (m : List ℕ) : Type 0 where
  pub as_sent_lem : Message
  pub valid : valid_message as_sent_lem ≡ true
  pub sent : SentAs as_sent_lem m
  pub kept : M ≡ canonical_message as_sent_lem

-- m fits the forms, and its spelling fits the room
pub record Fits (m : List ℕ) (room : ℕ) : Type 0 where
  pub of : Message
  pub is_record : IsRecord of m
  pub has_room_lem : length (spelling of) ≤ room

-- the answer gives the record's type and the length of its spelling, which is at the front of the output; the bytes behind it are as they were
pub record Spelled (M : Message) (out : List ℕ) (a : Answer) (after : List ℕ) : Type 0 where
  pub answer_is : a ≡ Ok (M.type, length (spelling M))
  pub output_is : after ≡ front (spelling M) out

-- the spelling as a caller finds it: as many bytes of the output as the answer says
abbrev pub spelling_in : Answer → List ℕ → List ℕ
spelling_in (Ok (t, n)) after = take n after
spelling_in (Err r) after = []

pub record Demand2 (R : Reader) (m out : List ℕ) (a : Answer) (after : List ℕ) : Type 0 where
  -- a message is accepted exactly when it fits the forms and its spelling fits the room lent
  pub accepted_fits : accepts a ≡ true → Fits m (length out)
  pub fits_accepted : Fits m (length out) → accepts a ≡ true
  -- its record is the only one that the forms allow
  pub only_record : (M N : Message) → IsRecord M m → IsRecord N m → M ≡ N
  -- the record, written out, gives one spelling
  pub one_spelling : (M : Message) → IsRecord M m → accepts a ≡ true → Spelled M out a after
  -- that spelling has the same record; reading it, with room for it, gives the same answer and writes the same bytes
  pub same_record : (M : Message) → IsRecord M m → IsRecord M (spelling M)
  pub read_again : (M : Message) → IsRecord M m → accepts a ≡ true
      → (other : List ℕ) (b : Answer) (left : List ℕ) → R (spelling M) other b left → length (spelling M) ≤ length other
      → (b ≡ a) × (left ≡ front (spelling M) other)
  -- two accepted messages have equal records exactly when their spellings are equal
  pub equal_spellings : (M : Message) → IsRecord M m → accepts a ≡ true
      → (k other : List ℕ) (b : Answer) (left : List ℕ) → R k other b left → (N : Message) → IsRecord N k → accepts b ≡ true
      → M ≡ N → spelling_in a after ≡ spelling_in b left
  pub equal_records : (M : Message) → IsRecord M m → accepts a ≡ true
      → (k other : List ℕ) (b : Answer) (left : List ℕ) → R k other b left → (N : Message) → IsRecord N k → accepts b ≡ true
      → spelling_in a after ≡ spelling_in b left → M ≡ N

-- READERS THAT MUST NOT PASS

-- a reader passes if each result that it may give is as demand 2 says; and it gives a result for any message and output
pub record Passes (R : Reader) : Type 0 where
  pub answer : List ℕ → List ℕ → Answer
  pub output : List ℕ → List ℕ → List ℕ
  pub result : (m out : List ℕ) → R m out (answer m out) (output m out)
  pub demanded : (m out : List ℕ) (a : Answer) (after : List ℕ) → R m out a after → Demand2 R m out a after

pub record NotPassing : Type 1 where
  -- by demand 2 alone: a reader that refuses all, and one that gives one fixed record, which is to say one fixed spelling for all that it accepts
  pub refusing_all : (R : Reader) → ((m out : List ℕ) (a : Answer) (after : List ℕ) → R m out a after → accepts a ≡ false) → Passes R → ⊥
  pub one_record : (R : Reader) (w : List ℕ)
      → ((m out : List ℕ) (a : Answer) (after : List ℕ) → R m out a after → accepts a ≡ true → spelling_in a after ≡ w) → Passes R → ⊥
  -- by the contract of `read`: these two; one that accepts all; one that gives one answer; one that accepts all as one type and of one length
  pub refuses_all_lem : (r : List ℕ → ℕ → Answer) → ((m : List ℕ) (room : ℕ) → accepts (r m room) ≡ false) → Meets r → ⊥
  pub one_written : (w : List ℕ) (o : List ℕ → List ℕ → List ℕ)
      → ((m out : List ℕ) → accepts (answer_of m (length out)) ≡ true → o m out ≡ front w out) → Writes o → ⊥
  pub accepts_all : (r : List ℕ → ℕ → Answer) → ((m : List ℕ) (room : ℕ) → accepts (r m room) ≡ true) → Meets r → ⊥
  pub one_answer : (a : Answer) → Meets (λ m room. a) → ⊥
  pub one_acceptance : (t : MessageType) (n : ℕ) (r : List ℕ → ℕ → Answer)
      → ((m : List ℕ) (room : ℕ) → accepts (r m room) ≡ true → r m room ≡ Ok (t, n)) → Meets r → ⊥
