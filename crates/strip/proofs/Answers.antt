-- The answers of an update, as the code comes to them. Assumes nothing.
use Prim.Native.Nat.{ℕ, ◌<◌, ◌≤◌}
use mathlib.Core.Path.{◌≡◌, refl, sym, ap, ◌∙◌}
use mathlib.Core.Bool.{Bool, true, false, cond}
use mathlib.Core.List.{List}
use lib.Dec.{eqb, ltb}
use lib.ListN.{length}
use borrow.Author.Tests.{ne_eqb, lt-ltb, le-ltb}
use Rattle.std.specs.Prelude.{Option, Some, None}
use Rattle.text.specs.Words.{split}
use Rattle.text.specs.Lent.{front}
use Rattle.space.specs.Fields.{inner}
use Rattle.sent.specs.Sent.{message_of}
use Rattle.kinds.specs.declared.MessageType.{MessageType}
use Rattle.kinds.specs.declared.Role.{Role}
use Rattle.kinds.specs.Kinds.{role_of}
use Rattle.message.specs.Answer.{Answer}
use Rattle.message.specs.Reading.{unexplained_in}
use Rattle.state.specs.declared.Strip.{Strip}
use Rattle.state.specs.declared.Event.{Event}
use Rattle.state.specs.State.{allowed_in, next_of}
use Rattle.opening.specs.Opening.{text_said, opening_of}
use Rattle.opening.proofs.Plan.{opened}
use Rattle.amending.specs.Amended.{amended, new_strip}
use Rattle.strip.specs.Updating.{Updated, event_of, differences, differs, strip_after}
use Rattle.strip.specs.Updating.{room_as, amended_as, event_as, offered_as, opened_as, update_of, type_read, written_as, out_after}
use Rattle.strip.specs.Steps.{written_text, Due, Amends, Offers}
use Rattle.std.specs.Prelude.{Ok, Err}
use Rattle.outer.specs.Refusal.{refusal}

-- THE ANSWER DUE, and the output that goes with it

module _ (due answer : Updated) (role : Role) (p s out after : List ℕ) where
  told : due ≡ answer → after ≡ written_text answer role p s out → Due due role p s out answer after
  told e w = (sym e, w ∙ ap (λ (a : Updated). written_text a role p s out) (sym e))

  passed_on : (there : Updated) → due ≡ there → Due there role p s out answer after → Due due role p s out answer after
  passed_on there e d = (d.0 ∙ sym e, d.1 ∙ ap (λ (a : Updated). written_text a role p s out) (sym e))

-- 10, 16 AND 11

module _ (role : Role) (p s : List ℕ) (next : Strip) (out : List ℕ) where
  abbrev amend-due : Updated
  amend-due = amended_as (amended role p s) next (length out)

  refused-so : (number field : ℕ) → amend-due ≡ Err (refusal number field 0) → Amends role next p s out (Err (refusal number field 0)) out
  refused-so number field e = told amend-due (Err (refusal number field 0)) role p s out out e refl

  by_field : (u : ℕ) → u ≡ unexplained_in (amended role p s)
      → amend-due ≡ cond (eqb u 0) (room_as (new_strip role p s) next (length out)) (Err (refusal 10 u 0))
  unfolding new_strip
  by_field u e = ap (λ (v : ℕ). cond (eqb v 0) (room_as (message_of (amended role p s)) next (length out)) (Err (refusal 10 v 0))) (sym e)

  pub left_unexplained : (u : ℕ) → u ≡ unexplained_in (amended role p s) → (u ≡ 0 → ⊥) → Amends role next p s out (Err (refusal 10 u 0)) out
  left_unexplained u e ne =
      refused-so 10 u (by_field u e ∙ ap (λ (b : Bool). cond b (room_as (new_strip role p s) next (length out)) (Err (refusal 10 u 0))) (ne_eqb u 0 ne))

  explained : (u : ℕ) → u ≡ unexplained_in (amended role p s) → u ≡ 0 → amend-due ≡ room_as (new_strip role p s) next (length out)
  explained u e z = by_field u e ∙ ap (λ (v : ℕ). cond (eqb v 0) (room_as (new_strip role p s) next (length out)) (Err (refusal 10 v 0))) z

  module _ (u : ℕ) (e : u ≡ unexplained_in (amended role p s)) (z : u ≡ 0) (n : ℕ) (long : n ≡ length (new_strip role p s)) where
    abbrev by-room : ℕ → Updated
    by-room k = cond (ltb 1800 k) (Err (refusal 16 0 0)) (cond (ltb (length out) k) (Err (refusal 11 0 0)) (Ok (next, k)))

    by_length : amend-due ≡ by-room n
    by_length = explained u e z ∙ ap by-room (sym long)

    pub too_long : 1800 < n → Amends role next p s out (Err (refusal 16 0 0)) out
    too_long h = refused-so 16 0 (by_length ∙ rw (lt-ltb 1800 n h))

    pub no_room_lem : n ≤ 1800 → length out < n → Amends role next p s out (Err (refusal 11 0 0)) out
    no_room_lem h r = refused-so 11 0 (by_length ∙ rw (le-ltb 1800 n h, lt-ltb (length out) n r))

    pub fits-room : n ≤ 1800 → n ≤ length out → (after : List ℕ) → after ≡ front (new_strip role p s) out
        → Amends role next p s out (Ok (next, n)) after
    fits-room h r after w =
        told amend-due (Ok (next, n)) role p s out after (by_length ∙ rw (le-ltb 1800 n h, le-ltb (length out) n r)) w

-- 14, 12 AND 13

module _ (role : Role) (p : List ℕ) (held : Strip) (s out : List ℕ) where
  abbrev offer-due : Updated
  offer-due = offered_as role p held s (length out)

  turned_down : (number : ℕ) → offer-due ≡ Err (refusal number 0 0) → Offers role held p s out (Err (refusal number 0 0)) out
  turned_down number e = told offer-due (Err (refusal number 0 0)) role p s out out e refl

  by-event : (o : Option Event) → event_of role (split 45 s) ≡ o → offer-due ≡ event_as o role p held s (length out)
  unfolding offered_as
  by-event o e = ap (λ (x : Option Event). event_as x role p held s (length out)) e

  pub unfit : event_of role (split 45 s) ≡ None → Offers role held p s out (Err (refusal 14 0 0)) out
  unfit e = turned_down 14 (by-event None e)

  module _ (e : Event) (is-event : event_of role (split 45 s) ≡ Some e) where
    abbrev by_state : Bool → Updated
    by_state b = cond b (amended_as (amended role p s) (next_of held e) (length out)) (Err (refusal 13 0 0))

    by_differences : (b : Bool) → differs (differences role (split 45 p) (split 45 s)) ≡ b
        → offer-due ≡ cond b (Err (refusal 12 0 0)) (by_state (allowed_in held e))
    by_differences b d = by-event (Some e) is-event ∙ ap (λ (x : Bool). cond x (Err (refusal 12 0 0)) (by_state (allowed_in held e))) d

    pub differing : differs (differences role (split 45 p) (split 45 s)) ≡ true → Offers role held p s out (Err (refusal 12 0 0)) out
    differing d = turned_down 12 (by_differences true d)

    module _ (same-flight : differs (differences role (split 45 p) (split 45 s)) ≡ false) where
      pub not_allowed : allowed_in held e ≡ false → Offers role held p s out (Err (refusal 13 0 0)) out
      not_allowed a = turned_down 13 (by_differences false same-flight ∙ ap by_state a)

      pub allowed : allowed_in held e ≡ true → (next : Strip) → next ≡ next_of held e → (answer : Updated) (after : List ℕ)
          → Amends role next p s out answer after → Offers role held p s out answer after
      allowed a next n answer after d =
          let amends = amended_as (amended role p s) next (length out) in
          let e : offer-due ≡ amends
          = by_differences false same-flight ∙ ap by_state a ∙ ap (λ (x : Strip). amended_as (amended role p s) x (length out)) (sym n) in
          passed_on offer-due answer role p s out after amends e d

-- THE WHOLE

module _ (strip : List ℕ) (held : Strip) (m out : List ℕ) where
  abbrev pub Whole : Updated → List ℕ → Type 0
  Whole answer after = (answer ≡ update_of strip held m (length out)) × (after ≡ out_after strip held m out)

  whole : (u : Updated) → update_of strip held m (length out) ≡ u → (answer : Updated) (after : List ℕ)
      → answer ≡ u → after ≡ written_as u strip m out → Whole answer after
  unfolding out_after
  whole u e answer after a w = (a ∙ sym e, w ∙ ap (λ (x : Updated). written_as x strip m out) (sym e))

  by_opening : (o : Answer) → opening_of strip held m ≡ o → update_of strip held m (length out) ≡ opened_as o strip held m (length out)
  unfolding update_of
  by_opening o e = ap (λ (x : Answer). opened_as x strip held m (length out)) e

  pub not_opened : (number field place : ℕ) → opening_of strip held m ≡ Err (refusal number field place) → Whole (Err (refusal number field place)) out
  not_opened number field place e = whole (Err (refusal number field place)) (by_opening (Err (refusal number field place)) e) _ _ refl refl

  -- the output, whatever the answer
  written_same : (t : MessageType) (n : ℕ) → opening_of strip held m ≡ Ok (t, n) → (u : Updated)
      → written_text u (role_of t) (inner strip) (text_said t m) out ≡ written_as u strip m out
  written_same t n e (Ok (next, k)) = ap (λ (a : Answer). front (strip_after (type_read a) strip m) out) (sym (opened strip held m t n e).read)
  written_same t n e (Err r) = refl

  pub was_opened : (t : MessageType) (n : ℕ) → opening_of strip held m ≡ Ok (t, n) → (role : Role) → role ≡ role_of t
      → (p s : List ℕ) → p ≡ inner strip → s ≡ text_said t m → (answer : Updated) (after : List ℕ) → Offers role held p s out answer after
      → Whole answer after
  was_opened t n e role er p s ep es answer after d =
      let v = offered_as (role_of t) (inner strip) held (text_said t m) (length out) in
      let q : offered_as role p held s (length out) ≡ v = rw (er, ep, es) in
      let w : written_text (offered_as role p held s (length out)) role p s out ≡ written_text v (role_of t) (inner strip) (text_said t m) out
      = rw (er, ep, es) in
      whole v (by_opening (Ok (t, n)) e) answer after (d.0 ∙ q) (d.1 ∙ w ∙ written_same t n e v)
