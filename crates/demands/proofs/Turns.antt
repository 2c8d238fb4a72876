-- What stands on a strip is a valid record's spelling, whatever updater meets demand 3; and every result of the update is a turn as demand 3
-- says. Assumes nothing.
use Prim.Native.Nat.{ℕ}
use mathlib.Core.Path.{◌≡◌, refl, sym, ap, ap₂, subst, fun_ext, ◌∙◌}
use mathlib.Core.List.{List, [], ◌∷◌, ◌++◌}
use lib.ListN.{length, drop}
use Rattle.outer.specs.Outer.{most}
use Rattle.sent.specs.Sent.{contents}
use Rattle.kinds.specs.declared.MessageType.TheVariants.{Fpl}
use Rattle.message.specs.Reading.{answer_of}
use Rattle.message.specs.Message.{canonical_message, message_from}
use Rattle.message.proofs.Accepted.{accepted_record}
use Rattle.message.proofs.Canonical.{canonical_valid, spelling_settled, spelling_contents}
use Rattle.state.specs.declared.Strip.{Strip}
use Rattle.strip.specs.Updating.{Updated, update_of, out_after}
use Rattle.history.specs.Demand3.{Updater, updater, Standing, Offer, Proper, put_as, entered_as, answered, offered, offered_all, log_all, Demand3, filed_as}
use Rattle.history.specs.History.{plan_in, nine, given}
use Rattle.history.proofs.Strip.{proper_stripped}
use Rattle.history.proofs.Amended.{nine_plan}
use Rattle.history.proofs.Latest.{left_latest}
use Rattle.history.proofs.Causes.{Verdict, verdict, refused_cause, cause_refused}
use Rattle.history.proofs.Demand3.{took_behind, Stands, kept_on, filed_stands, refused_stays, stepped_length, demand3}
use Rattle.history.proofs.Only.{standing_last, log_last}
use Rattle.demands.specs.Turns.{OnStrip, Updates, Turns}
use Rattle.std.specs.Prelude.{Ok}

-- THE RECORD ON A STRIP

proper_record : (strip : List ℕ) (held : Strip) → Proper strip held → OnStrip strip
proper_record strip held p =
    let x = message_from Fpl (contents strip) in
    let r = accepted_record strip most Fpl p.long p.read in
    record {
      of = canonical_message x;
      type_is = refl;
      valid = canonical_valid x r.valid;
      is_record = record { as_sent_lem = x; valid = r.valid; sent = r.sent; kept = refl };
      spelt = sym p.canonical ∙ sym r.spelled ∙ sym (spelling_settled x);
      fields_are = sym (spelling_contents x r.valid) ∙ ap contents (r.spelled ∙ p.canonical);
    }

-- after every run, by demand 3 alone
pub strip_record : (U : Updater) (filed : List (List ℕ)) (start : Standing) (run : List Offer) → Demand3 U filed start run
    → OnStrip (offered_all U start run).strip
strip_record U filed start run d = subst OnStrip (sym d.strip_is) (proper_record _ d.held d.stays_proper)

-- and the contents are those of the history's plan
pub plan_fields_lem : (m : List ℕ) (room n : ℕ) → answer_of m room ≡ Ok (Fpl, n) → (run : List Offer) (d : Demand3 updater (contents m) (filed_as m) run)
    → contents (offered_all updater (filed_as m) run).strip ≡ nine d.plan
plan_fields_lem m room n e run d =
    let filed = plan_in (contents m) in
    let b = offered_all updater (filed_as m) run in
    let log = log_all updater (filed_as m) [] run in
    let h : Stands filed b log = kept_on filed run (filed_as m) [] (filed_stands m room n e) in
    let fits = (proper_stripped b.strip b.held h.proper).fits in
    sym (nine_plan (contents b.strip) fits)
    ∙ ap nine (fun_ext (λ f. h.plan_is f ∙ sym (left_latest (given f) (filed f) log (d.plan f) (d.parts f))))

-- ONE TURN

module _ (b : Standing) (o : Offer) (a : Updated) (after : List ℕ) (u : Updates b o a after) where
  -- the strip that the caller has afterwards
  put_so : offered updater b o ≡ put_as a after b
  put_so = ap₂ (λ (x : Updated) (w : List ℕ). put_as x w b) (sym u.answer_is) (sym u.output_is)

  accepted_length : (next : Strip) (n : ℕ) → a ≡ Ok (next, n) → n ≡ length (put_as a after b).strip
  accepted_length next n q = stepped_length b o next n (sym u.answer_is ∙ q) ∙ ap (λ (x : Standing). length x.strip) put_so

  accepted_behind : (next : Strip) (n : ℕ) → a ≡ Ok (next, n) → drop n after ≡ drop n o.lent
  accepted_behind next n q =
      let e = sym u.answer_is ∙ q in
      let room = length o.lent in
      ap (drop n) u.output_is
      ∙ took_behind b.strip b.held o.bytes room next n
      (subst (Verdict b.strip b.held o.bytes room) e (verdict b.strip b.held o.bytes room)) o.lent e

  pub turns : Turns b o a after
  turns filed room n read run e =
      record {
        standing_is = standing_last updater run (filed_as filed) o ∙ ap (λ (x : Standing). offered updater x o) e ∙ put_so;
        log_is =
            log_last updater run (filed_as filed) [] o
            ∙ ap (λ (x : Standing). entered_as (answered updater x o) o.bytes (log_all updater (filed_as filed) [] run)) e
            ∙ ap (λ (x : Updated). entered_as x o.bytes (log_all updater (filed_as filed) [] run)) (sym u.answer_is);
        demanded = demand3 filed room n read (run ++ (o ∷ []));
        refused_cause = λ number field place q.
            refused_cause b.strip b.held o.bytes (length o.lent) number field place (sym u.answer_is ∙ q);
        cause_refused = λ number field place c.
            u.answer_is ∙ cause_refused b.strip b.held o.bytes (length o.lent) number field place c;
        unchanged = λ number field place q.
            u.output_is ∙ refused_stays b.strip b.held o.bytes o.lent number field place (sym u.answer_is ∙ q);
        length_is = accepted_length;
        behind_stays = accepted_behind;
      }

-- WHAT THE CONTRACT of `strip::update` says is a result of the update, and so a turn as demanded
pub update_demanded : (b : Standing) (o : Offer) (a : Updated) (after : List ℕ)
    → (a ≡ update_of b.strip b.held o.bytes (length o.lent)) × (after ≡ out_after b.strip b.held o.bytes o.lent)
    → Updates b o a after × Turns b o a after
update_demanded b o a after e =
    let u : Updates b o a after = record { answer_is = e.0; output_is = e.1 } in
    (u, turns b o a after u)
