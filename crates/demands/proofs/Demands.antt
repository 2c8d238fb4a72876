-- Demands 1 and 2 hold of every result of reading, and readers that must not pass do not; demand 3 holds of the update. Assumes nothing.
use Prim.Native.Nat.{ℕ, ◌≤◌}
use mathlib.Core.Path.{◌≡◌, refl, sym, ap, ap₂, subst, ◌∙◌}
use mathlib.Core.Bool.{true, false, false≢true}
use mathlib.Core.List.{List, [], ◌∷◌, ◌++◌}
use native.Mathlib.Omega.{arith}
use lib.ListN.{length, take, drop, replicate}
use Rattle.alphabet.specs.Text.{bytes}
use Rattle.text.specs.Lent.{front}
use Rattle.sent.specs.Sent.{contents}
use Rattle.kinds.specs.declared.MessageType.{MessageType}
use Rattle.kinds.specs.declared.MessageType.TheVariants.{Cnl, Dla}
use Rattle.message.specs.Answer.{Answer}
use Rattle.message.specs.Reading.{answer_of, out_after}
use Rattle.message.specs.Message.{Message, canonical_message, spelling, valid_message, SentAs, message_from, accepts}
use Rattle.message.proofs.Answers.{answered, accepted as answered-accepted, refused as answered-refused, Answered}
use Rattle.message.proofs.Answers.{refused-leaves, accepted-writes, refused-number}
use Rattle.message.proofs.Accepted.{accepted_record, accepted_fits as accepted-of, one_record, record_accepted, record_spelling}
use Rattle.message.proofs.Canonical.{canonical_settled, canonical_valid, spelling_settled, spelling_sent, equal_records as records-equal}
use Rattle.message.proofs.Examples.{cancelled, accepted_types}
use Rattle.message.proofs.Readers.{refuses_all_lem, accepts_all, one_answer, one_acceptance, one_spelling}
use Rattle.history.specs.Demand3.{updater, Meets as Meets3}
use Rattle.history.proofs.Demand3.{demand3 as of-history}
use Rattle.demands.specs.Demands.{Reader, Reads, Demand1, accepted, refused, IsRecord, Fits, Spelled, spelling_in, Demand2, Passes, NotPassing}
use Rattle.message.proofs.Places.{refused_place}
use Rattle.demands.proofs.Named.{refused_named}
use Rattle.demands.proofs.Pointed.{refused_points}
use Rattle.std.specs.Prelude.{Ok, Err}
use Rattle.outer.specs.Refusal.{refusal}

-- DEMAND 1

pub demand1 : (m out : List ℕ) (a : Answer) (after : List ℕ) → Reads m out a after → Demand1 m out a after
demand1 m out a after r = go (answered a)
  where
    go : Answered a → Demand1 m out a after
    go (answered-accepted t n e) = accepted t n e
    go (answered-refused number field place e) =
        let q : answer_of m (length out) ≡ Err (refusal number field place) = sym r.answer_is ∙ e in
        let k = refused-number m (length out) number field place q in
        refused number field place e
        (record {
          least = k.0;
          greatest = k.1;
          named = refused_named m (length out) number field place q;
          inside = refused_place m (length out) number field place q;
          points = refused_points m (length out) number field place q;
          stays = r.output_is ∙ refused-leaves m out number field place q;
        })

-- DEMAND 2

-- a valid record of which a message was sent gives the message's record
module _ (x : Message) (m : List ℕ) (v : valid_message x ≡ true) (s : SentAs x m) where
  sent_record : IsRecord (canonical_message x) m
  sent_record = record { as_sent_lem = x; valid = v; sent = s; kept = refl }

  sent_fits : (room : ℕ) → length (spelling x) ≤ room → Fits m room
  sent_fits room h = record { of = canonical_message x; is_record = sent_record; has_room_lem = omega (arith, h, ap length (spelling_settled x)) }

-- the record's spelling is that of the record as sent
record_spelled : (M : Message) (m : List ℕ) (r : IsRecord M m) → spelling M ≡ spelling r.as_sent_lem
record_spelled M m r = ap spelling r.kept ∙ spelling_settled r.as_sent_lem

only : (m : List ℕ) (M N : Message) → IsRecord M m → IsRecord N m → M ≡ N
only m M N r q =
    r.kept ∙ ap canonical_message (one_record r.as_sent_lem q.as_sent_lem m r.valid q.valid r.sent q.sent) ∙ sym q.kept

again : (m : List ℕ) (M : Message) → IsRecord M m → IsRecord M (spelling M)
again m M r =
    let x = r.as_sent_lem in
    let s : SentAs (canonical_message x) (spelling x) = spelling_sent x r.valid m r.sent in
    record {
      as_sent_lem = canonical_message x;
      valid = canonical_valid x r.valid;
      sent = subst (SentAs (canonical_message x)) (sym (record_spelled M m r)) s;
      kept = r.kept ∙ sym (canonical_settled x);
    }

same_spellings : (m k : List ℕ) (M N : Message) → IsRecord M m → IsRecord N k → spelling M ≡ spelling N → M ≡ N
same_spellings m k M N r q e =
    let h = sym (record_spelled M m r) ∙ e ∙ record_spelled N k q in
    r.kept ∙ records-equal r.as_sent_lem q.as_sent_lem r.valid q.valid h ∙ sym q.kept

-- what stands at the front
take_front : (w rest : List ℕ) → take (length w) (w ++ rest) ≡ w
take_front [] rest = refl
take_front (b ∷ w) rest = ap (λ (l : List ℕ). b ∷ l) (take_front w rest)

spelled_in : (M : Message) (out : List ℕ) (a : Answer) (after : List ℕ) → Spelled M out a after → spelling_in a after ≡ spelling M
unfolding front
spelled_in M out a after s =
    ap (λ (b : Answer). spelling_in b after) s.answer_is
    ∙ ap (take (length (spelling M))) s.output_is
    ∙ take_front (spelling M) (drop (length (spelling M)) out)

module _ (m out : List ℕ) (a : Answer) (after : List ℕ) (r : Reads m out a after) where
  accepted_fits : accepts a ≡ true → Fits m (length out)
  accepted_fits e =
      let k = accepted-of m (length out) (sym (ap accepts r.answer_is) ∙ e) in
      sent_fits k.of m k.valid k.sent (length out) k.fits

  -- with room for it, a record is spelled
  fitting_spelled : (M : Message) → IsRecord M m → length (spelling M) ≤ length out → Spelled M out a after
  fitting_spelled M q h =
      let x = q.as_sent_lem in
      let l = record_spelled M m q in
      let e = record_accepted x m q.valid q.sent (length out) (omega (arith, h, ap length l)) in
      let w = accepted-writes m out x.type (length (spelling x)) e in
      let t : M.type ≡ x.type = ap (λ (N : Message). N.type) q.kept in
      record {
        answer_is = r.answer_is ∙ e ∙ sym (ap₂ (λ (u : MessageType) (n : ℕ). Ok (u, n)) t (ap length l));
        output_is = r.output_is ∙ w ∙ ap (λ (s : List ℕ). front s out) (record_spelling x m q.valid q.sent ∙ sym l);
      }

  fits_accepted : Fits m (length out) → accepts a ≡ true
  fits_accepted k = ap accepts (fitting_spelled k.of k.is_record k.has_room_lem).answer_is

  spelled : (M : Message) → IsRecord M m → accepts a ≡ true → Spelled M out a after
  spelled M q e =
      let k = accepted_fits e in
      let l : length (spelling k.of) ≡ length (spelling M) = ap (λ (N : Message). length (spelling N)) (only m k.of M k.is_record q) in
      fitting_spelled M q (omega (arith, k.has_room_lem))

  read_so : (M : Message) → IsRecord M m → accepts a ≡ true → spelling_in a after ≡ spelling M
  read_so M q e = spelled_in M out a after (spelled M q e)

pub demand2 : (m out : List ℕ) (a : Answer) (after : List ℕ) → Reads m out a after → Demand2 Reads m out a after
demand2 m out a after r =
    record {
      accepted_fits = accepted_fits m out a after r;
      fits_accepted = fits_accepted m out a after r;
      only_record = only m;
      one_spelling = spelled m out a after r;
      same_record = again m;
      read_again = λ M q e other b left p h.
          let s = fitting_spelled (spelling M) other b left p M (again m M q) h in
          (s.answer_is ∙ sym (spelled m out a after r M q e).answer_is, s.output_is);
      equal_spellings = λ M q e k other b left p N n d same.
          read_so m out a after r M q e ∙ ap spelling same ∙ sym (read_so k other b left p N n d);
      equal_records = λ M q e k other b left p N n d same.
          same_spellings m k M N q n (sym (read_so m out a after r M q e) ∙ same ∙ read_so k other b left p N n d);
    }

-- WHAT THE CONTRACT of `message::read` says is a result of reading, and so as demanded

pub read_demanded : (m out : List ℕ) (a : Answer) (after : List ℕ) → (a ≡ answer_of m (length out)) × (after ≡ out_after m out)
    → Reads m out a after × (Demand1 m out a after × Demand2 Reads m out a after)
read_demanded m out a after e =
    let r : Reads m out a after = record { answer_is = e.0; output_is = e.1 } in
    (r, (demand1 m out a after r, demand2 m out a after r))

-- THE READER PASSES

pub read_passes : Passes Reads
read_passes =
    record {
      answer = λ m out. answer_of m (length out);
      output = out_after;
      result = λ m out. record { answer_is = refl; output_is = refl };
      demanded = demand2;
    }

-- demand 2 leaves an accepted message one result: two readers that do as it says give the same answer and leave the same output
pub demand2_decides : (R Q : Reader) (m out : List ℕ) (a b : Answer) (after left : List ℕ) → Demand2 R m out a after → Demand2 Q m out b left
    → accepts a ≡ true → (a ≡ b) × (after ≡ left)
demand2_decides R Q m out a b after left d c e =
    let k = d.accepted_fits e in
    let s = d.one_spelling k.of k.is_record e in
    let t = c.one_spelling k.of k.is_record (c.fits_accepted k) in
    (s.answer_is ∙ sym t.answer_is, s.output_is ∙ sym t.output_is)

-- READERS THAT MUST NOT PASS

abbrev cancelling : List ℕ
cancelling = bytes "(CNL-ABC12-EHAM0930-EDDF-0)"

abbrev delaying : List ℕ
delaying = bytes "(DLA-ABC12-EHAM0930-EDDF-0)"

-- an accepted message has a record, of its type
record Typed (t : MessageType) (m : List ℕ) (room : ℕ) : Type 0 where
  fit : Fits m room
  typed : fit.of.type ≡ t

accepted_typed : (t : MessageType) (m : List ℕ) (room n : ℕ) → answer_of m room ≡ Ok (t, n) → Typed t m room
unfolding sent_fits
accepted_typed t m room n e =
    let k = accepted_record m room t n e in
    let x = message_from t (contents m) in
    record { fit = sent_fits x m k.valid k.sent room (omega (arith, k.long, k.fits)); typed = refl }

fits_cancelling : Typed Cnl cancelling 100
fits_cancelling = accepted_typed Cnl cancelling 100 27 cancelled

fits_delaying : Typed Dla delaying 100
fits_delaying = accepted_typed Dla delaying 100 27 accepted_types.2

abbrev room : List ℕ
room = replicate 100 46

refusing_all : (R : Reader) → ((m out : List ℕ) (a : Answer) (after : List ℕ) → R m out a after → accepts a ≡ false) → Passes R → ⊥
refusing_all R none p =
    let r = p.result cancelling room in
    let d = p.demanded cancelling room (p.answer cancelling room) (p.output cancelling room) r in
    false≢true (sym (none cancelling room (p.answer cancelling room) (p.output cancelling room) r) ∙ d.fits_accepted fits_cancelling.fit)

fixed_record : (R : Reader) (w : List ℕ)
    → ((m out : List ℕ) (a : Answer) (after : List ℕ) → R m out a after → accepts a ≡ true → spelling_in a after ≡ w) → Passes R → ⊥
fixed_record R w one p =
    let a = p.answer cancelling room in
    let b = p.answer delaying room in
    let after = p.output cancelling room in
    let left = p.output delaying room in
    let r = p.result cancelling room in
    let q = p.result delaying room in
    let d = p.demanded cancelling room a after r in
    let c = p.demanded delaying room b left q in
    let e = d.fits_accepted fits_cancelling.fit in
    let f = c.fits_accepted fits_delaying.fit in
    let M = fits_cancelling.fit.of in
    let N = fits_delaying.fit.of in
    let same = one cancelling room a after r e ∙ sym (one delaying room b left q f) in
    let h = d.equal_records M fits_cancelling.fit.is_record e delaying room b left q N fits_delaying.fit.is_record f same in
    let t : Cnl ≡ Dla = sym fits_cancelling.typed ∙ ap (λ (K : Message). K.type) h ∙ fits_delaying.typed in
    let z : ◌≡◌ {A = ℕ} 0 1 = cc in
    omega arith

pub not_passing : NotPassing
not_passing =
    record {
      refusing_all = refusing_all;
      one_record = fixed_record;
      refuses_all_lem = refuses_all_lem;
      one_written = one_spelling;
      accepts_all = accepts_all;
      one_answer = one_answer;
      one_acceptance = one_acceptance;
    }

-- DEMAND 3, of the update: the definitions are those of `history`

pub demand3 : Meets3 updater
demand3 = of-history
