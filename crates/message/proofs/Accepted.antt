-- A message is accepted exactly where it is a valid record's, with white space as it may be sent, and its spelling fits the room; the record
-- is the only one. Assumes nothing.
use Prim.Native.Nat.{ℕ, ◌≤◌, ◌<◌}
use mathlib.Core.Path.{◌≡◌, refl, sym, ap, ap₂, ◌∙◌}
use mathlib.Core.Bool.{Bool, true, false, false≢true}
use mathlib.Core.List.{List, []}
use native.Mathlib.Omega.{arith}
use lib.Dec.{ltb}
use lib.ListN.{length, take, get_or}
use borrow.Author.Tests.{ltb-true, ltb-false}
use Rattle.text.specs.Words.{Word}
use Rattle.sent.specs.Sent.{message_of, contents}
use Rattle.sent.proofs.Passed.{passed_message}
use Rattle.kinds.specs.declared.MessageType.{MessageType}
use Rattle.kinds.specs.Kinds.{forms_of}
use Rattle.kinds.proofs.Fields.{least_some}
use Rattle.message.specs.Answer.{Answer}
use Rattle.message.specs.Reading.{count_of, spelled_from, spelling_of, answer_of}
use Rattle.message.specs.Message.{Message, sent_contents, spelling, valid_message, SentAs, message_from, accepts}
use Rattle.message.proofs.Written.{spelled_message, written_all_lem}
use Rattle.message.proofs.Reached.{Reached, reached_accepted, accepted_taken}
use Rattle.message.proofs.Valid.{Fitting, filled, fitting_forms, fitting_length, filled_from, filled_contents, filled_valid}
use Rattle.message.proofs.Valid.{fitting_contents, fitting_reached, valid_fitting, valid_from, reached_passed, reached_fitting}
use Rattle.kinds.proofs.Names.{name_one}
use Rattle.std.specs.Prelude.{Ok, Err}
use Rattle.outer.specs.Refusal.{refusal}

-- WHAT IS WRITTEN of contents that fit is the spelling of their record

pub filled_spelling : (t : MessageType) (n : ℕ) (cs : List Word) → Fitting t n cs → spelled_from 40 (forms_of t n) cs ≡ spelling (filled t n cs)
filled_spelling t n cs f =
    let forms = fitting_forms t n cs f in
    let long = fitting_length t n cs f in
    spelled_message (forms_of t n) cs (omega (arith, least_some t)) (forms ∙ sym long) ∙ ap message_of (written_all_lem (forms_of t n) cs f.fit)

-- AN ACCEPTED MESSAGE is its record's, and the record is valid

-- a message that has passed numbers 1 to 10 is sent of the record of its contents, whose spelling is the one that is written
module _ (t : MessageType) (m : List ℕ) (r : Reached t m) where
  reached_from : filled t (count_of m) (contents m) ≡ message_from t (contents m)
  reached_from = filled_from t (count_of m) (contents m) (reached_fitting t m r)

  pub reached_valid : valid_message (message_from t (contents m)) ≡ true
  reached_valid = ap valid_message (sym reached_from) ∙ filled_valid t (count_of m) (contents m) (reached_fitting t m r)

  pub reached_sent : SentAs (message_from t (contents m)) m
  reached_sent =
      record {
        short = (reached_passed t m r).short;
        same_bytes =
            passed_message m (reached_passed t m r)
            ∙ ap message_of (sym (filled_contents t (count_of m) (contents m) (reached_fitting t m r)) ∙ ap sent_contents reached_from);
      }

  pub reached_spelling : spelling (message_from t (contents m)) ≡ spelling_of t m
  unfolding spelling_of
  reached_spelling = ap spelling (sym reached_from) ∙ sym (filled_spelling t (count_of m) (contents m) (reached_fitting t m r))

-- M is the record of a message that was accepted as one of type t, with n bytes written
pub record RecordOf (M : Message) (m : List ℕ) (room : ℕ) (t : MessageType) (n : ℕ) : Type 0 where
  pub type_is : M.type ≡ t
  pub valid : valid_message M ≡ true
  pub sent : SentAs M m
  pub spelled : spelling M ≡ spelling_of t m
  pub long : n ≡ length (spelling M)
  pub fits : n ≤ room

pub accepted_record : (m : List ℕ) (room : ℕ) (t : MessageType) (n : ℕ) → answer_of m room ≡ Ok (t, n) → RecordOf (message_from t (contents m)) m room t n
accepted_record m room t n e =
    let k = accepted_taken t m room n e in
    let spelled = reached_spelling t m k.reached in
    record {
      type_is = refl;
      valid = reached_valid t m k.reached;
      sent = reached_sent t m k.reached;
      spelled = spelled;
      long = k.long ∙ ap length (sym spelled);
      fits = omega (arith, k.long, k.fits);
    }

-- A VALID RECORD'S MESSAGE is accepted, if the record's spelling fits the room

module _ (M : Message) (m : List ℕ) (v : valid_message M ≡ true) (s : SentAs M m) where
  -- the message's contents are the record's
  pub record_contents : contents m ≡ sent_contents M
  record_contents = fitting_contents M.type M.count (sent_contents M) (valid_fitting M v) m s.short s.same_bytes

  pub record_from : message_from M.type (contents m) ≡ M
  record_from = ap (message_from M.type) record_contents ∙ valid_from M v

  pub record_reached : Reached M.type m
  record_reached = fitting_reached M.type M.count (sent_contents M) (valid_fitting M v) m s.short s.same_bytes

  pub record_spelling : spelling_of M.type m ≡ spelling M
  record_spelling = sym (reached_spelling M.type m record_reached) ∙ ap spelling record_from

  pub record_accepted : (room : ℕ) → length (spelling M) ≤ room → answer_of m room ≡ Ok (M.type, length (spelling M))
  record_accepted room h =
      let l : length (spelling_of M.type m) ≡ length (spelling M) = ap length record_spelling in
      reached_accepted M.type m room record_reached (omega arith) ∙ ap (λ (n : ℕ). Ok (M.type, n)) l

-- THE RECORD IS THE ONLY ONE

-- valid records with equal contents are equal
pub contents_one : (M N : Message) → valid_message M ≡ true → valid_message N ≡ true → sent_contents M ≡ sent_contents N → M ≡ N
contents_one M N v w e =
    let name = sym (valid_fitting M v).named ∙ ap (λ (cs : List Word). take 3 (get_or cs 0 [])) e ∙ (valid_fitting N w).named in
    sym (valid_from M v) ∙ ap₂ message_from (name_one M.type N.type name) e ∙ valid_from N w

pub one_record : (M N : Message) (m : List ℕ) → valid_message M ≡ true → valid_message N ≡ true → SentAs M m → SentAs N m → M ≡ N
one_record M N m v w s k = contents_one M N v w (sym (record_contents M m v s) ∙ record_contents N m w k)

-- EXACTLY WHEN: there is a valid record of which the message was sent and whose spelling fits the room

pub record Fits (m : List ℕ) (room : ℕ) : Type 0 where
  pub of : Message
  pub valid : valid_message of ≡ true
  pub sent : SentAs of m
  pub fits : length (spelling of) ≤ room

pub accepted_fits : (m : List ℕ) (room : ℕ) → accepts (answer_of m room) ≡ true → Fits m room
accepted_fits m room e = go (answer_of m room) refl e
  where
    go : (a : Answer) → answer_of m room ≡ a → accepts a ≡ true → Fits m room
    go (Ok (t, n)) q e =
        let r = accepted_record m room t n q in
        record { of = message_from t (contents m); valid = r.valid; sent = r.sent; fits = omega (arith, r.long, r.fits) }
    go (Err r) q e = absurd (false≢true e)

pub fits_accepted : (m : List ℕ) (room : ℕ) → Fits m room → accepts (answer_of m room) ≡ true
fits_accepted m room k = ap accepts (record_accepted k.of m k.valid k.sent room k.fits)

-- so a message is refused where it is of no valid record, or the record's spelling is longer than the room
pub refused_longer : (M : Message) (m : List ℕ) → valid_message M ≡ true → SentAs M m
    → (room number field place : ℕ) → answer_of m room ≡ Err (refusal number field place) → room < length (spelling M)
refused_longer M m v s room number field place e = go (ltb room (length (spelling M))) refl
  where
    go : (b : Bool) → ltb room (length (spelling M)) ≡ b → room < length (spelling M)
    go true q = ltb-true room (length (spelling M)) q
    go false q =
        let h = record_accepted M m v s room (ltb-false room (length (spelling M)) q) in
        absurd (false≢true (ap accepts (sym e ∙ h)))
