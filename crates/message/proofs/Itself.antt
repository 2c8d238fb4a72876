-- A plan as it is written: where its fields and its count let it pass, and that its spelling is its reduction. Assumes nothing.
use Prim.Native.Nat.{ℕ, ◌+◌, ◌-◌, ◌≤◌}
use mathlib.Core.Path.{◌≡◌, refl, sym, ap, ◌∙◌}
use mathlib.Core.Bool.{Bool, true, false, ◌&&◌, not, cond, false≢true}
use mathlib.Core.List.{List}
use native.Mathlib.Omega.{arith}
use lib.Dec.{eqb, ltb}
use lib.ListN.{length, take, drop, length-take, length-drop}
use borrow.Author.Tests.{eqb-true, eqb-false}
use Rattle.text.specs.Words.{split, all}
use Rattle.space.specs.Reduced.{reduced}
use Rattle.space.specs.Hyphens.{place_of_hyphen}
use Rattle.sent.specs.Sent.{message_of, contents}
use Rattle.sent.proofs.Passed.{passed_message}
use Rattle.outer.specs.Outer.{most, outer}
use Rattle.outer.proofs.Good.{good_short}
use Rattle.kinds.specs.declared.MessageType.{MessageType}
use Rattle.kinds.specs.declared.Form.{Form}
use Rattle.kinds.specs.Kinds.{least_of, greatest_of, forms_of, number_of}
use Rattle.kinds.proofs.Fields.{least_some}
use Rattle.message.specs.Answer.{Fault}
use Rattle.message.specs.Reading.{count_of, spelled_from, spelling_of, fault_in, is_plan, unexplained_in, place_in_plan, Counted}
use Rattle.message.specs.Reading.{room_as, explained_as, fault_as, fields_as, count_as, outer_as, plans}
use Rattle.message.proofs.Plans.{plan_type}
use Rattle.message.proofs.Written.{spelled_message, all_stay_lem}
use Rattle.message.proofs.Reached.{Reached}
use Rattle.message.proofs.Walk.{spelled_short}
use Rattle.message.proofs.Steps.{two_bytes, room_enough, left_unexplained, none_unexplained, field_fault, fields_clear}
use Rattle.message.proofs.Valid.{reached_passed, reached_fitting, fitting_forms, fitting_length}
use Rattle.message.proofs.Canonical.{plan_kept}
use Rattle.std.specs.Prelude.{Ok, Err, is_ok}
use Rattle.outer.specs.Refusal.{refusal, Checked}

-- THE SPELLING of a plan that has passed numbers 1 to 10 is its reduction: no field of it is written anew
pub plan_spelling : (t : MessageType) (m : List ℕ) → Reached t m → is_plan t ≡ true → spelling_of t m ≡ reduced m
unfolding spelling_of
plan_spelling t m r p =
    let n = count_of m in
    let cs = contents m in
    let f = reached_fitting t m r in
    let forms = fitting_forms t n cs f in
    let even = forms ∙ sym (fitting_length t n cs f) in
    let kept = ap (λ (u : MessageType). all (λ (g : Form). not (eqb (number_of g) 19)) (forms_of u n)) (plan_type t p) ∙ plan_kept n in
    spelled_message (forms_of t n) cs (omega (arith, least_some t, r.least)) even ∙ ap message_of (all_stay_lem (forms_of t n) cs even kept)
    ∙ sym (passed_message m (reached_passed t m r))

-- THE FIELDS OF A PLAN let it pass where they have no fault and nothing is unexplained
module _ (t : MessageType) (m : List ℕ) (count : ℕ) (s : List ℕ) (k : Counted t m count s) (p : is_plan t ≡ true) (short : length s + 2 ≤ most) where
  abbrev unexplained : ℕ
  unexplained = unexplained_in (split 45 s)

  accepted : unexplained ≡ 0 → plans (fault_as (Ok tt) t m most) ≡ true
  accepted z =
      let w = spelled_from 40 (forms_of t count) (split 45 s) in
      let h : length w ≤ most = omega (arith, spelled_short (forms_of t count) s) in
      ap plans (none_unexplained t m count s k most unexplained p refl z ∙ room_enough t m count s k most (length w) refl h) ∙ p

  by_unexplained : (b : Bool) → eqb unexplained 0 ≡ b → plans (fault_as (Ok tt) t m most) ≡ b
  by_unexplained true q = accepted (eqb-true unexplained 0 q)
  by_unexplained false q = ap plans (left_unexplained t m count s k most unexplained p refl (eqb-false unexplained 0 q))

  by_fault : (f : Fault) → fault_in t count (split 45 s) ≡ f → plans (fields_as t m most) ≡ (is_ok f && eqb unexplained 0)
  by_fault (Err r) e = ap plans (field_fault t m count s k most r.number r.field e)
  by_fault (Ok u) e = ap plans (fields_clear t m count s k most e) ∙ by_unexplained (eqb unexplained 0) refl

  pub plan_fields_lem : plans (fields_as t m most) ≡ (is_ok (fault_in t count (split 45 s)) && eqb unexplained 0)
  plan_fields_lem = by_fault (fault_in t count (split 45 s)) refl

-- the text of a message where it stands, with its parentheses, is the message
pub itself_short : (m : List ℕ) → outer m ≡ Ok tt → length (take (length m - 1 - 1) (drop 1 m)) + 2 ≤ most
itself_short m g = omega (arith, length-take (length m - 1 - 1) (drop 1 m), length-drop 1 m, good_short m g, two_bytes m g)

pub and_true : (a b : Bool) → b ≡ true → (a && b) ≡ a
and_true true b e = e
and_true false b e = refl

-- A MESSAGE THAT NUMBERS 1 TO 3 REFUSE is accepted as none
pub none_passed : (o : Checked) (m : List ℕ) → is_ok o ≡ false → plans (outer_as o m most) ≡ false
none_passed (Ok u) m e = absurd (false≢true (sym e))
none_passed (Err r) m e = refl

-- A MESSAGE OF ANOTHER TYPE is accepted as no plan
module _ (t : MessageType) (m : List ℕ) (room : ℕ) (p : is_plan t ≡ false) where
  other_room : plans (room_as t m room) ≡ false
  other_room = go (ltb room (length (spelling_of t m)))
    where
      go : (b : Bool) → plans (cond b (Err (refusal 11 0 0)) (Ok (t, length (spelling_of t m)))) ≡ false
      go true = refl
      go false = p

  other_explained : (field : ℕ) → plans (explained_as field t m room) ≡ false
  other_explained field = go (eqb field 0)
    where
      go : (b : Bool) → plans (cond b (room_as t m room) (Err (refusal 10 field (place_of_hyphen (place_in_plan field) m)))) ≡ false
      go true = other_room
      go false = refl

  other_fault : (f : Fault) → plans (fault_as f t m room) ≡ false
  other_fault (Err r) = refl
  other_fault (Ok u) = other_explained (cond (is_plan t) (unexplained_in (contents m)) 0)

  pub other_type : plans (count_as t m room) ≡ false
  unfolding count_as
  other_type = go (ltb (count_of m) (least_of t)) (ltb (greatest_of t) (count_of m))
    where
      go : (x y : Bool) → plans
          (cond x (Err (refusal 6 0 (length m - 1))) (cond y (Err (refusal 6 0 (place_of_hyphen (greatest_of t) m))) (fields_as t m room))) ≡ false
      go true y = refl
      go false true = refl
      go false false = other_fault (fault_in t (count_of m) (contents m))
