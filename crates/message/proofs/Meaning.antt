-- Two valid messages have one canonical record exactly where they say the same; so accepted messages have one spelling exactly where they do, and what
-- is written says what was sent. Assumes nothing.
use Prim.Native.Nat.{ℕ}
use mathlib.Core.Path.{◌≡◌, refl, sym, ap, subst, ◌∙◌}
use mathlib.Core.Bool.{true}
use mathlib.Core.List.{List}
use native.Mathlib.Omega.{arith}
use Rattle.sent.specs.Sent.{contents}
use Rattle.kinds.specs.declared.MessageType.{MessageType}
use Rattle.kinds.specs.Kinds.{forms_of}
use Rattle.records.specs.Records.{Records, canonical_all}
use Rattle.forms.proofs.Meaning.{all_apart, all_together}
use Rattle.message.specs.Reading.{spelling_of, answer_of}
use Rattle.message.specs.Message.{Message, fields_of, canonical_message, valid_message, message_from}
use Rattle.message.specs.Meaning.{SameMessage, same_fields}
use Rattle.message.proofs.Valid.{valid_fields}
use Rattle.message.proofs.Accepted.{accepted_record}
use Rattle.message.proofs.Canonical.{accepted_again, same_spelling, accepted_equal, equal_accepted}
use Rattle.std.specs.Prelude.{Ok}

-- a message whose canonical record is K
data Kept (K : Message) : Message → Type 0 where
  kept : (rs : Records (fields_of K.type K.count)) → canonical_all (fields_of K.type K.count) rs ≡ K.fields
      → Kept K (record { type = K.type; count = K.count; fields = rs })

kept_one : {K M N : Message} → Kept K M → Kept K N → valid_message M ≡ true → valid_message N ≡ true → SameMessage M N
kept_one {K} (kept rs d) (kept qs e) v w =
    let M : Message = record { type = K.type; count = K.count; fields = rs } in
    let N : Message = record { type = K.type; count = K.count; fields = qs } in
    same_fields qs (all_apart (forms_of K.type K.count) rs qs (valid_fields M v) (valid_fields N w) (d ∙ sym e))

pub same_apart : (M N : Message) → valid_message M ≡ true → valid_message N ≡ true → canonical_message M ≡ canonical_message N → SameMessage M N
same_apart M N v w e = kept_one (subst (λ (K : Message). Kept K M) e (kept M.fields refl)) (kept N.fields refl) v w

pub same_together : (M N : Message) → valid_message M ≡ true → valid_message N ≡ true → SameMessage M N → canonical_message M ≡ canonical_message N
same_together M N v w (same_fields qs a) =
    let other = valid_fields (record { type = M.type; count = M.count; fields = qs }) w in
    ap (λ (rs : Records (fields_of M.type M.count)). record { type = M.type; count = M.count; fields = rs })
    (all_together (forms_of M.type M.count) M.fields qs (valid_fields M v) other a)

-- THE SAME, OF ACCEPTED MESSAGES

module _ (m : List ℕ) (room : ℕ) (t : MessageType) (n : ℕ) (e : answer_of m room ≡ Ok (t, n)) where
  -- another accepted message says the same exactly where it has an equal spelling
  module _ (k : List ℕ) (other : ℕ) (u : MessageType) (l : ℕ) (d : answer_of k other ≡ Ok (u, l)) where
    pub spelling_apart : spelling_of t m ≡ spelling_of u k → SameMessage (message_from t (contents m)) (message_from u (contents k))
    spelling_apart h =
        let r = accepted_record m room t n e in
        let q = accepted_record k other u l d in
        same_apart (message_from t (contents m)) (message_from u (contents k)) r.valid q.valid (accepted_equal m room t n e k other u l d h)

    pub spelling_together : SameMessage (message_from t (contents m)) (message_from u (contents k)) → spelling_of t m ≡ spelling_of u k
    spelling_together s =
        let r = accepted_record m room t n e in
        let q = accepted_record k other u l d in
        equal_accepted m room t n e k other u l d (same_together (message_from t (contents m)) (message_from u (contents k)) r.valid q.valid s)

  -- what is written says what was sent
  pub written_said : SameMessage (message_from t (contents m)) (message_from t (contents (spelling_of t m)))
  written_said =
      spelling_apart (spelling_of t m) n t n (accepted_again m room t n e n (omega arith)) (sym (same_spelling m room t n e))
