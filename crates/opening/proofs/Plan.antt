-- What a canonical plan is: nine fields between two parentheses, in at most 1,800 bytes; and what follows where a strip was opened for a message.
-- Assumes nothing.
use Prim.Native.Nat.{ℕ, ◌-◌, ◌≤◌}
use mathlib.Core.Path.{◌≡◌, refl, sym, ap, ◌∙◌}
use mathlib.Core.Bool.{Bool, true, false, cond, ◌&&◌, false≢true}
use mathlib.Core.List.{List}
use native.Mathlib.Omega.{arith}
use lib.Dec.{leb}
use lib.ListN.{length, take, drop}
use Rattle.text.specs.Words.{split, same}
use Rattle.text.specs.Lent.{front}
use Rattle.text.proofs.Lent.{length_front}
use Rattle.text.proofs.Tests.{both, same-eq}
use Rattle.space.specs.Reduced.{reduced}
use Rattle.space.specs.Fields.{inner}
use Rattle.outer.specs.Outer.{most}
use Rattle.sent.specs.Sent.{contents}
use Rattle.kinds.specs.declared.MessageType.{MessageType}
use Rattle.kinds.specs.declared.MessageType.TheVariants.{Fpl}
use Rattle.message.specs.Answer.{Answer}
use Rattle.message.specs.Reading.{count_of, spelling_of, answer_of}
use Rattle.message.specs.Message.{message_from, spelling}
use Rattle.message.proofs.Plans.{plan_type, nine_forms}
use Rattle.message.proofs.Reached.{accepted_taken}
use Rattle.message.proofs.Valid.{reached_fitting, fitting_length, fitting_forms}
use Rattle.message.proofs.Accepted.{accepted_record}
use Rattle.message.proofs.Canonical.{spelling_reduced}
use Rattle.state.specs.declared.Strip.{Strip}
use Rattle.state.specs.State.{sound}
use Rattle.opening.specs.Opening.{canonical_plan, read_as_plan, text_said, read_as, opening_of, scratch_after}
use Rattle.opening.proofs.Steps.{front_whole, front_text, spelling_two, read_bounds, read_long}
use Rattle.std.specs.Prelude.{Ok, Err}
use Rattle.outer.specs.Refusal.{refusal}

-- WHAT A CANONICAL PLAN IS

pub record Plan (strip : List ℕ) : Type 0 where
  pub nine : length (split 45 (inner strip)) ≡ 9
  pub two : 2 ≤ length strip
  pub short : length strip ≤ 1800

module _ (strip : List ℕ) where
  facts : (n : ℕ) → answer_of strip 1800 ≡ Ok (Fpl, n) → spelling_of Fpl strip ≡ strip → Plan strip
  facts n q s =
      let r = accepted_record strip 1800 Fpl n q in
      let whole : spelling (message_from Fpl (contents strip)) ≡ strip = r.spelled ∙ s in
      let stays : reduced strip ≡ strip = ap reduced (sym whole) ∙ spelling_reduced (message_from Fpl (contents strip)) r.valid ∙ whole in
      let f = reached_fitting Fpl strip (accepted_taken Fpl strip 1800 n q).reached in
      let l : length (contents strip) ≡ 9
      = fitting_length Fpl (count_of strip) (contents strip) f ∙ sym (fitting_forms Fpl (count_of strip) (contents strip) f) ∙ nine_forms (count_of strip) in
      record {
        nine = ap (λ (w : List ℕ). length (split 45 (inner w))) (sym stays) ∙ l;
        two = omega (arith, ap length s, spelling_two strip 1800 Fpl n q);
        short = r.sent.short;
      }

  pub plan_facts : canonical_plan strip ≡ true → Plan strip
  unfolding canonical_plan
  plan_facts e =
      let b = both (read_as_plan (answer_of strip 1800)) (same (spelling_of Fpl strip) strip) e in
      go (answer_of strip 1800) refl b.0 (same-eq (spelling_of Fpl strip) strip b.1)
    where
      go : (a : Answer) → answer_of strip 1800 ≡ a → read_as_plan a ≡ true → spelling_of Fpl strip ≡ strip → Plan strip
      go (Err r) q p s = absurd (false≢true p)
      go (Ok (t, n)) q p s = facts n (q ∙ ap (λ (u : MessageType). Ok (u, n)) (plan_type t p)) s

-- A STRIP OPENED for a message: the strip is a plan, the record sound, and the message was read as this type

pub record Opened (strip : List ℕ) (held : Strip) (m : List ℕ) (t : MessageType) (n : ℕ) : Type 0 where
  pub is_sound : sound held ≡ true
  pub is_plan_lem : canonical_plan strip ≡ true
  pub read : answer_of m most ≡ Ok (t, n)
  pub plan : Plan strip
  pub two : 2 ≤ n
  pub short : n ≤ most
  pub long : n ≡ length (spelling_of t m)

module _ (strip : List ℕ) (held : Strip) (m : List ℕ) where
  read_type : (a : Answer) (t : MessageType) (n : ℕ) → read_as a ≡ Ok (t, n) → a ≡ Ok (t, n)
  read_type (Ok (u, k)) t n e = cc
  read_type (Err r) t n e = cc

  pub opened : (t : MessageType) (n : ℕ) → opening_of strip held m ≡ Ok (t, n) → Opened strip held m t n
  unfolding opening_of
  opened t n e = go (sound held) (canonical_plan strip) refl refl e
    where
      go : (a b : Bool) → sound held ≡ a → canonical_plan strip ≡ b → cond (a && b) (read_as (answer_of m most)) (Err (refusal 15 0 0)) ≡ Ok (t, n)
          → Opened strip held m t n
      go true true s p q =
          let r = read_type (answer_of m most) t n q in
          let b = read_bounds m most t n r in
          record {
            is_sound = s;
            is_plan_lem = p;
            read = r;
            plan = plan_facts strip p;
            two = b.0;
            short = b.1;
            long = read_long m most t n r;
          }
      go true false s p q = cc
      go false true s p q = cc
      go false false s p q = cc

  -- the scratch, as the code has it: `last` is what it holds afterwards
  module _ (t : MessageType) (n : ℕ) (e : opening_of strip held m ≡ Ok (t, n)) (scratch last : List ℕ)
      (d : last ≡ scratch_after (opening_of strip held m) m scratch) where
    at_front : last ≡ front (spelling_of t m) scratch
    at_front = d ∙ ap (λ (o : Answer). scratch_after o m scratch) e

    pub last_long : length scratch ≡ most → length last ≡ most
    last_long long =
        let o = opened t n e in
        ap length at_front ∙ length_front (spelling_of t m) scratch (omega (arith, o.long, o.short, long)) ∙ long

    pub whole_there : take n last ≡ spelling_of t m
    whole_there = ap (take n) at_front ∙ front_whole (spelling_of t m) scratch n (opened t n e).long

    pub text_there : take (n - 1 - 1) (drop 1 last) ≡ text_said t m
    text_there =
        let o = opened t n e in
        ap (λ (w : List ℕ). take (n - 1 - 1) (drop 1 w)) at_front ∙ front_text (spelling_of t m) scratch n o.long o.two
