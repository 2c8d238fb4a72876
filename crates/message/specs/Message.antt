-- The record of a message: its type, how many fields it has, and each field's record; which records are valid, and their one spelling.
-- Assumes nothing.
use Rattle.std.specs.Prelude.{ℕ, ◌≤◌, ◌≡◌, Bool, true, false, ◌&&◌, ◌||◌, not, cond, List, [], ◌∷◌, map, leb, eqb, length, take, get_or, Ok, Err}
use Rattle.alphabet.specs.Alphabet.{one_of}
use Rattle.text.specs.Words.{Word, same}
use Rattle.shape.specs.Field.{Field}
use Rattle.space.specs.Reduced.{reduced}
use Rattle.outer.specs.Outer.{most}
use Rattle.sent.specs.Sent.{message_of, contents}
use Rattle.kinds.specs.declared.MessageType.{MessageType}
use Rattle.kinds.specs.declared.Form.{Form}
use Rattle.kinds.specs.Kinds.{least_of, greatest_of, forms_of, name_of}
use Rattle.records.specs.Records.{Records, contents_of, valid_all, canonical_all, records_of}
use Rattle.forms.specs.Field22.{which_of}
use Rattle.forms.specs.Forms.{field_of, is_entry}
use Rattle.message.specs.Answer.{Answer}
use Rattle.message.specs.Reading.{is_plan, unexplained_in, answer_of, out_after}

-- THE RECORD

abbrev pub fields_of : MessageType → ℕ → List Field
fields_of t n = map field_of (forms_of t n)

pub record Message : Type 0 where
  pub type : MessageType
  pub count : ℕ
  pub fields : Records (fields_of type count)

-- the fields' contents, as they were sent
abbrev pub sent_contents : Message → List Word
sent_contents M = contents_of (fields_of M.type M.count) M.fields

-- the record as it is kept and written: field 19 in its order, all else the same
abbrev pub canonical_message : Message → Message
canonical_message M = record { type = M.type; count = M.count; fields = canonical_all (fields_of M.type M.count) M.fields }

-- its one spelling
abbrev pub spelling : Message → List ℕ
spelling M = message_of (sent_contents (canonical_message M))

-- WHICH RECORDS ARE VALID

-- the fields that entries name, by their ranks
abbrev pub ranks_in : List Form → List Word → List ℕ
ranks_in [] cs = []
ranks_in (f ∷ fs) [] = []
ranks_in (f ∷ fs) (c ∷ cs) = cond (is_entry f) (which_of c ∷ ranks_in fs cs) (ranks_in fs cs)

abbrev pub none_twice : List ℕ → Bool
none_twice [] = true
none_twice (x ∷ xs) = not (one_of x xs) && none_twice xs

-- field 3 names the type
abbrev pub names_type : MessageType → List Word → Bool
names_type t cs = same (take 3 (get_or cs 0 [])) (name_of t)

-- an FPL leaves nothing unexplained
abbrev pub explained : MessageType → List Word → Bool
explained t cs = not (is_plan t) || eqb (unexplained_in cs) 0

-- as many fields as the type may have, each valid; field 3 names the type; no entry names a field twice; nothing is unexplained
unfoldable pub valid_message : Message → Bool
valid_message M =
    (leb (least_of M.type) M.count && leb M.count (greatest_of M.type))
    && (valid_all (fields_of M.type M.count) M.fields
    && (names_type M.type (sent_contents M)
    && (none_twice (ranks_in (forms_of M.type M.count) (sent_contents M))
    && explained M.type (sent_contents M))))

-- A MESSAGE AS SENT: the record's fields, with white space as it may be sent, in at most 1,800 bytes

pub record SentAs (M : Message) (m : List ℕ) : Type 0 where
  pub short : length m ≤ most
  pub same_bytes : reduced m ≡ message_of (sent_contents M)

-- the record of contents, for a type
abbrev pub message_from : MessageType → List Word → Message
message_from t cs = record { type = t; count = length cs; fields = records_of (fields_of t (length cs)) cs }

-- the record that is kept of a message of a type
abbrev pub record_in : MessageType → List ℕ → Message
record_in t m = canonical_message (message_from t (contents m))

-- A READER, by its answer for each message and room, and by the output that it leaves: it must give these answers and leave these outputs

abbrev pub accepts : Answer → Bool
accepts (Ok (t, n)) = true
accepts (Err r) = false

abbrev pub Meets : (List ℕ → ℕ → Answer) → Type 0
Meets r = (m : List ℕ) (room : ℕ) → r m room ≡ answer_of m room

abbrev pub Writes : (List ℕ → List ℕ → List ℕ) → Type 0
Writes w = (m out : List ℕ) → w m out ≡ out_after m out
