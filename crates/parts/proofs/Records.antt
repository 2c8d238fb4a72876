-- The parts of a plan are those of its record: of every valid record's spelling they are told, and are the record's. Assumes nothing.
use Prim.Native.Nat.{ℕ, ◌≤◌}
use mathlib.Core.Path.{◌≡◌, refl, sym, ap, subst, ◌∙◌}
use mathlib.Core.Bool.{true}
use mathlib.Core.List.{List, []}
use lib.ListN.{length, get_or}
use Rattle.text.specs.Words.{Word}
use Rattle.text.proofs.Tests.{same_self}
use Rattle.head.specs.Field7.{Field7, record7}
use Rattle.head.specs.Field9.{Field9, record9}
use Rattle.aerodromes.specs.Field13.{Field13, record13}
use Rattle.aerodromes.specs.Field16.{Field16Plan, record16plan}
use Rattle.other.specs.Field18.{spell18}
use Rattle.dates.specs.Dates.{date_in, flight_date}
use Rattle.outer.specs.Outer.{most}
use Rattle.sent.specs.Sent.{contents, message_of}
use Rattle.kinds.specs.declared.MessageType.TheVariants.{Fpl}
use Rattle.kinds.specs.Kinds.{forms_of, plan_forms, plan7, plan9, plan13, plan16, plan18}
use Rattle.records.specs.Records.{Records, contents_of, records_of}
use Rattle.records.proofs.Records.{all_taken}
use Rattle.message.specs.Message.{spelling, sent_contents, valid_message, SentAs}
use Rattle.message.proofs.Written.{laws_all}
use Rattle.message.proofs.Valid.{valid_fields}
use Rattle.message.proofs.Accepted.{record_spelling, record_accepted}
use Rattle.message.proofs.Canonical.{spelling_reduced, spelling_contents}
use Rattle.parts.specs.Parts.{taken_of, content_in, plan_of, planned_of}
use Rattle.parts.specs.Shown.{plan_fields, plan_message, seven_of, nine_of, thirteen_of, sixteen_of, eighteen_of, PlanShown, PlanTold}
use Rattle.parts.proofs.Own.{taken_own}
use Rattle.parts.proofs.Answers.{was-taken, plan-whole}
use Rattle.parts.proofs.Shown.{parts_shown}
use Rattle.std.specs.Prelude.{Ok}

-- the contents of the record, which are those of its canonical record too
plan_contents : (rs : Records plan_fields) → sent_contents (plan_message rs) ≡ contents_of plan_fields rs
unfolding plan_message forms_of plan_forms
plan_contents rs = refl

plan_spelling : (rs : Records plan_fields) → spelling (plan_message rs) ≡ message_of (contents_of plan_fields rs)
unfolding plan_message forms_of plan_forms
plan_spelling rs = refl

module _ (rs : Records plan_fields) (v : valid_message (plan_message rs) ≡ true) (short : length (spelling (plan_message rs)) ≤ most) where
  abbrev m : List ℕ
  m = spelling (plan_message rs)

  as_sent_lem : SentAs (plan_message rs) m
  as_sent_lem =
      record {
        short = short;
        same_bytes = spelling_reduced (plan_message rs) v ∙ plan_spelling rs ∙ sym (ap message_of (plan_contents rs));
      }

  taken : taken_of m ≡ Ok (Fpl, true)
  unfolding plan_message
  taken =
      sym (was-taken m Fpl _ (record_accepted (plan_message rs) m v as_sent_lem most short) m
      (sym (record_spelling (plan_message rs) m v as_sent_lem)) true (sym (same_self m)))

  pub plan_given : planned_of m ≡ Ok (plan_of m)
  plan_given = sym (plan-whole m (Ok (Fpl, true)) taken (Ok (plan_of m)) refl).0

  -- its contents are read as the record
  contents_are : contents m ≡ contents_of plan_fields rs
  unfolding plan_message forms_of plan_forms
  contents_are = spelling_contents (plan_message rs) v

  back : records_of plan_fields (contents_of plan_fields rs) ≡ rs
  unfolding plan_message forms_of plan_forms
  back = (all_taken plan_fields (laws_all (forms_of Fpl 9)) rs (valid_fields (plan_message rs) v)).1

  seven_is : record7 (content_in m plan7) ≡ seven_of rs
  seven_is = ap (λ (cs : List Word). record7 (get_or cs plan7 [])) contents_are ∙ ap seven_of back

  nine_is : record9 (content_in m plan9) ≡ nine_of rs
  nine_is = ap (λ (cs : List Word). record9 (get_or cs plan9 [])) contents_are ∙ ap nine_of back

  thirteen_is : record13 (content_in m plan13) ≡ thirteen_of rs
  thirteen_is = ap (λ (cs : List Word). record13 (get_or cs plan13 [])) contents_are ∙ ap thirteen_of back

  sixteen_is : record16plan (content_in m plan16) ≡ sixteen_of rs
  sixteen_is = ap (λ (cs : List Word). record16plan (get_or cs plan16 [])) contents_are ∙ ap sixteen_of back

  day_is : (plan_of m).date ≡ flight_date (date_in (spell18 (eighteen_of rs)))
  unfolding plan_of
  day_is = ap (λ (cs : List Word). flight_date (date_in (get_or cs plan18 []))) contents_are

  pub plan_told : PlanTold rs
  plan_told =
      let c7 = content_in m plan7 in
      let c9 = content_in m plan9 in
      let c13 = content_in m plan13 in
      record {
        told = plan_of m;
        given = plan_given;
        shown =
            subst (λ (r : Field7). PlanShown m r (nine_of rs) (thirteen_of rs) (sixteen_of rs) (plan_of m)) seven_is
            (subst (λ (r : Field9). PlanShown m (record7 c7) r (thirteen_of rs) (sixteen_of rs) (plan_of m)) nine_is
            (subst (λ (r : Field13). PlanShown m (record7 c7) (record9 c9) r (sixteen_of rs) (plan_of m)) thirteen_is
            (subst (λ (r : Field16Plan). PlanShown m (record7 c7) (record9 c9) (record13 c13) r (plan_of m)) sixteen_is
            (parts_shown m (taken_own m Fpl taken)))));
        date = day_is;
      }
