-- The canonical record is valid and its own canonical record; its spelling is no longer than any message of the record, and is read as the
-- same record; two records are equal exactly where their spellings are. Assumes nothing.
use Prim.Native.Nat.{ℕ, ◌≤◌, ◌<◌}
use mathlib.Core.Path.{◌≡◌, refl, sym, ap, ◌∙◌}
use mathlib.Core.Bool.{Bool, true, false, ◌||◌, not, false≢true}
use mathlib.Core.List.{List, [], ◌∷◌}
use native.Mathlib.Omega.{arith}
use lib.Dec.{eqb}
use lib.ListN.{length, take, get_or, length-append}
use Rattle.text.specs.Words.{Word, join, all, tidy}
use Rattle.text.proofs.Tests.{and_both}
use Rattle.space.specs.Reduced.{reduced}
use Rattle.sent.specs.Sent.{message_of, contents}
use Rattle.sent.proofs.Sent.{sent_contents_lem, sent_longer, spelling_stays}
use Rattle.kinds.specs.declared.MessageType.{MessageType}
use Rattle.kinds.specs.declared.MessageType.TheVariants.{Fpl}
use Rattle.kinds.specs.declared.Form.{Form}
use Rattle.kinds.specs.declared.Form.TheVariants.{Field19}
use Rattle.kinds.specs.Kinds.{least_of, greatest_of, types_read, forms_of, number_of}
use Rattle.kinds.specs.Kinds.{plan_forms, brief_forms, request_forms, arrival_forms, diverted_forms, supplement_forms}
use Rattle.kinds.proofs.Fields.{each_count}
use Rattle.records.specs.Records.{Records, contents_of, valid_all, canonical_all}
use Rattle.records.proofs.Records.{all_taken, all_kept, all_settled, all_shorter}
use Rattle.message.specs.Reading.{is_plan, unexplained_in, spelling_of, answer_of}
use Rattle.message.specs.Message.{Message, fields_of, sent_contents, canonical_message, spelling, ranks_in, none_twice, explained, valid_message, SentAs}
use Rattle.message.specs.Message.{message_from, record_in}
use Rattle.message.proofs.Plans.{plan_type}
use Rattle.message.proofs.Written.{laws_all, written_all, written_all_lem, ranks_stay, all_stay_lem}
use Rattle.message.proofs.Valid.{Fitting, fitting_forms, fitting_length, fitting_tidy, fitting_some, fitting_valid, valid_fields, valid_fitting}
use Rattle.message.proofs.Accepted.{accepted_record, record_from, record_spelling, record_accepted, contents_one}
use Rattle.std.specs.Prelude.{Ok}

-- WHAT WRITING KEEPS

-- the first field, where it is not field 19
first_stays : (fs : List Form) (cs : List Word) → not (eqb (number_of (get_or fs 0 Field19)) 19) ≡ true → get_or (written_all fs cs) 0 [] ≡ get_or cs 0 []
first_stays [] cs e = absurd (false≢true e)
first_stays (f ∷ fs) [] e = refl
first_stays (f ∷ fs) (c ∷ cs) e = ap (λ (ws : List Word). get_or ws 0 []) (all_stay_lem (f ∷ []) (c ∷ []) refl (and_both _ true e refl))

type_stays : (t : MessageType) (n : ℕ) (cs : List Word) → least_of t ≤ n → n ≤ greatest_of t → get_or (written_all (forms_of t n) cs) 0 [] ≡ get_or cs 0 []
unfolding types_read forms_of plan_forms brief_forms request_forms arrival_forms diverted_forms supplement_forms
type_stays t n cs l g =
    first_stays (forms_of t n) cs (each_count (λ u k. not (eqb (number_of (get_or (forms_of u k) 0 Field19)) 19)) refl t n l g)

-- what an FPL explains: it has no field 19
pub plan_kept : (n : ℕ) → all (λ f. not (eqb (number_of f) 19)) (forms_of Fpl n) ≡ true
unfolding forms_of plan_forms
plan_kept n = refl

explained_stays : (t : MessageType) (n : ℕ) (cs : List Word) → length (forms_of t n) ≡ length cs → explained t (written_all (forms_of t n) cs) ≡ explained t cs
explained_stays t n cs l = go (is_plan t) refl
  where
    go : (b : Bool) → is_plan t ≡ b → (not b || eqb (unexplained_in (written_all (forms_of t n) cs)) 0) ≡ (not b || eqb (unexplained_in cs) 0)
    go true q =
        let kept = ap (λ (u : MessageType). all (λ f. not (eqb (number_of f) 19)) (forms_of u n)) (plan_type t q) ∙ plan_kept n in
        ap (λ (ws : List Word). eqb (unexplained_in ws) 0) (all_stay_lem (forms_of t n) cs l kept)
    go false q = refl

-- THE CANONICAL RECORD

-- it is its own canonical record
pub canonical_settled : (M : Message) → canonical_message (canonical_message M) ≡ canonical_message M
canonical_settled M =
    ap (λ (rs : Records (fields_of M.type M.count)). record { type = M.type; count = M.count; fields = rs })
    (all_settled (fields_of M.type M.count) (laws_all (forms_of M.type M.count)) M.fields)

pub spelling_settled : (M : Message) → spelling (canonical_message M) ≡ spelling M
spelling_settled M = ap (λ (N : Message). message_of (sent_contents N)) (canonical_settled M)

module _ (M : Message) (v : valid_message M ≡ true) where
  -- its contents are what is written of the record's
  pub canonical_contents : sent_contents (canonical_message M) ≡ written_all (forms_of M.type M.count) (sent_contents M)
  canonical_contents =
      let forms = forms_of M.type M.count in
      let fs = fields_of M.type M.count in
      let back = (all_taken fs (laws_all forms) M.fields (valid_fields M v)).1 in
      sym (written_all_lem forms (sent_contents M) (valid_fitting M v).fit ∙ ap (λ (rs : Records fs). contents_of fs (canonical_all fs rs)) back)

  canonical_fields : valid_all (fields_of M.type M.count) (canonical_message M).fields ≡ true
  canonical_fields = all_kept (fields_of M.type M.count) (laws_all (forms_of M.type M.count)) M.fields (valid_fields M v)

  canonical_fitting : Fitting M.type M.count (sent_contents (canonical_message M))
  canonical_fitting =
      let t = M.type in
      let n = M.count in
      let cs = sent_contents M in
      let f = valid_fitting M v in
      let e = canonical_contents in
      record {
        least = f.least;
        most = f.most;
        fit = (all_taken (fields_of t n) (laws_all (forms_of t n)) (canonical_message M).fields canonical_fields).0;
        named = ap (λ (ws : List Word). take 3 (get_or ws 0 [])) e ∙ ap (take 3) (type_stays t n cs f.least f.most) ∙ f.named;
        once = ap (λ (ws : List Word). none_twice (ranks_in (forms_of t n) ws)) e ∙ ap none_twice (ranks_stay (forms_of t n) cs) ∙ f.once;
        explains = ap (explained t) e ∙ explained_stays t n cs (fitting_forms t n cs f ∙ sym (fitting_length t n cs f)) ∙ f.explains;
      }

  pub canonical_valid : valid_message (canonical_message M) ≡ true
  canonical_valid = fitting_valid (canonical_message M) canonical_fields canonical_fitting

  -- ITS SPELLING holds its contents

  canonical_tidy : all tidy (sent_contents (canonical_message M)) ≡ true
  canonical_tidy = fitting_tidy M.type M.count (sent_contents (canonical_message M)) canonical_fitting

  canonical_some : 0 < length (sent_contents (canonical_message M))
  canonical_some = fitting_some M.type M.count (sent_contents (canonical_message M)) canonical_fitting

  pub spelling_reduced : reduced (spelling M) ≡ spelling M
  spelling_reduced = spelling_stays (sent_contents (canonical_message M)) canonical_tidy

  pub spelling_contents : contents (spelling M) ≡ sent_contents (canonical_message M)
  spelling_contents = sent_contents_lem (spelling M) (sent_contents (canonical_message M)) canonical_tidy canonical_some spelling_reduced

  -- A MESSAGE OF THE RECORD

  module _ (m : List ℕ) (s : SentAs M m) where
    -- the spelling is no longer
    pub spelling_shorter : length (spelling M) ≤ length m
    spelling_shorter =
        let cs = sent_contents M in
        let ds = sent_contents (canonical_message M) in
        let h = all_shorter (fields_of M.type M.count) (laws_all (forms_of M.type M.count)) M.fields (valid_fields M v) in
        omega (arith, h, sent_longer m cs s.same_bytes, length-append (join 45 cs) (41 ∷ []), length-append (join 45 ds) (41 ∷ []))

    -- it is itself a message, of the canonical record
    pub spelling_sent : SentAs (canonical_message M) (spelling M)
    spelling_sent = record { short = omega (arith, spelling_shorter, s.short); same_bytes = spelling_reduced }

    -- with room for it, it is accepted, and written as it stands
    pub spelling_accepted : (room : ℕ) → length (spelling M) ≤ room → answer_of (spelling M) room ≡ Ok (M.type, length (spelling M))
    spelling_accepted room h =
        let e = ap length (spelling_settled M) in
        record_accepted (canonical_message M) (spelling M) canonical_valid spelling_sent room (omega (arith, e)) ∙ ap (λ (n : ℕ). Ok (M.type, n)) e

    pub spelling_written : spelling_of M.type (spelling M) ≡ spelling M
    spelling_written = record_spelling (canonical_message M) (spelling M) canonical_valid spelling_sent ∙ spelling_settled M

    -- its record is the canonical one
    pub spelling_record : record_in M.type (spelling M) ≡ canonical_message M
    spelling_record = ap canonical_message (record_from (canonical_message M) (spelling M) canonical_valid spelling_sent) ∙ canonical_settled M

-- EQUAL RECORDS have equal spellings, and equal spellings are of equal records

pub equal_records : (M N : Message) → valid_message M ≡ true → valid_message N ≡ true → spelling M ≡ spelling N → canonical_message M ≡ canonical_message N
equal_records M N v w e =
    contents_one (canonical_message M) (canonical_message N) (canonical_valid M v) (canonical_valid N w)
    (sym (spelling_contents M v) ∙ ap contents e ∙ spelling_contents N w)

pub equal_spellings : (M N : Message) → canonical_message M ≡ canonical_message N → spelling M ≡ spelling N
equal_spellings M N e = ap (λ (K : Message). message_of (sent_contents K)) e

-- THE SAME, OF ACCEPTED MESSAGES

module _ (m : List ℕ) (room : ℕ) (t : MessageType) (n : ℕ) (e : answer_of m room ≡ Ok (t, n)) where
  -- what is written is the spelling of the record that is kept, and no longer than what was sent
  pub accepted_spelling : spelling_of t m ≡ message_of (sent_contents (record_in t m))
  accepted_spelling = sym (accepted_record m room t n e).spelled

  pub accepted_shorter : n ≤ length m
  accepted_shorter =
      let r = accepted_record m room t n e in
      omega (arith, r.long, spelling_shorter (message_from t (contents m)) r.valid m r.sent)

  -- reading it again, with room for it, accepts it, gives the same record and writes it again
  pub accepted_again : (other : ℕ) → n ≤ other → answer_of (spelling_of t m) other ≡ Ok (t, n)
  accepted_again other h =
      let r = accepted_record m room t n e in
      let a = spelling_accepted (message_from t (contents m)) r.valid m r.sent other (omega (arith, r.long, h)) in
      ap (λ (w : List ℕ). answer_of w other) (sym r.spelled) ∙ a ∙ ap (λ (n : ℕ). Ok (t, n)) (sym r.long)

  pub same_record : record_in t (spelling_of t m) ≡ record_in t m
  same_record =
      let r = accepted_record m room t n e in
      ap (record_in t) (sym r.spelled) ∙ spelling_record (message_from t (contents m)) r.valid m r.sent

  pub same_spelling : spelling_of t (spelling_of t m) ≡ spelling_of t m
  same_spelling =
      let r = accepted_record m room t n e in
      ap (spelling_of t) (sym r.spelled) ∙ spelling_written (message_from t (contents m)) r.valid m r.sent ∙ r.spelled

  -- another accepted message has an equal record exactly where it has an equal spelling
  module _ (k : List ℕ) (other : ℕ) (u : MessageType) (l : ℕ) (d : answer_of k other ≡ Ok (u, l)) where
    pub accepted_equal : spelling_of t m ≡ spelling_of u k → record_in t m ≡ record_in u k
    accepted_equal h =
        let r = accepted_record m room t n e in
        let q = accepted_record k other u l d in
        equal_records (message_from t (contents m)) (message_from u (contents k)) r.valid q.valid (r.spelled ∙ h ∙ sym q.spelled)

    pub equal_accepted : record_in t m ≡ record_in u k → spelling_of t m ≡ spelling_of u k
    equal_accepted h =
        let r = accepted_record m room t n e in
        let q = accepted_record k other u l d in
        sym r.spelled ∙ equal_spellings (message_from t (contents m)) (message_from u (contents k)) h ∙ q.spelled
