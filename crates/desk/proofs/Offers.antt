-- What filing a plan and offering a piece to the strip leave on the desk. Assumes nothing.
use Prim.Native.Nat.{ℕ, ◌≤◌}
use mathlib.Core.Path.{◌≡◌, refl, sym, ap, ◌∙◌}
use mathlib.Core.Bool.{true, false}
use mathlib.Core.List.{List, [], ◌∷◌, map}
use native.Mathlib.Omega.{arith}
use lib.ListN.{length, take, drop}
use lib.Seq.{take_at, length-take-le}
use Rattle.std.specs.Prelude.{Option, None, Some, Ok, Err}
use Rattle.text.specs.Words.{Word}
use Rattle.text.specs.Lent.{front}
use Rattle.kinds.specs.declared.MessageType.{MessageType}
use Rattle.message.specs.Answer.{Answer}
use Rattle.message.specs.Reading.{is_plan, spelling_of, answer_of, written_as, out_after}
use Rattle.message.proofs.Reached.{accepted_taken}
use Rattle.state.specs.declared.Strip.{Strip}
use Rattle.state.specs.State.{just_filed}
use Rattle.strip.specs.Updating.{Updated, update_of, out_after as new_after}
use Rattle.causes.specs.Causes.{Agree}
use Rattle.causes.proofs.Agreed.{agrees}
use Rattle.history.specs.Demand3.{Standing, put_as, updater, offered, offered_all}
use Rattle.message.proofs.Plans.{plan_type}
use Rattle.history.proofs.Causes.{accepted_fits}
use Rattle.racks.specs.declared.Flight.{Flight}
use Rattle.desk.specs.Desk.{standing_in, InRoom, filing_as, answer_to, cause_to, filed_by, lent, offer_of, standing_after, after_all, held_after, Offering}
use Rattle.outer.specs.Refusal.{refusal}

-- FILING: `a` is what reading the piece gave, `after` what it left in the buffer

module _ (buffer m after : List ℕ) (wide : length buffer ≡ 1800) where
  -- a piece that is not filed leaves the desk as it was
  pub not_filed : (a : Answer) (number field place : ℕ) → answer_of m (length buffer) ≡ a → filing_as a ≡ Err (refusal number field place)
      → Offering None buffer m (Err (refusal number field place)) after
  not_filed a number field place e f =
      let told : filing_as (answer_of m 1800) ≡ Err (refusal number field place) = ap filing_as (rw wide at e) ∙ f in
      record { answer_is = sym told; standing_is = sym (ap (λ (u : Updated). filed_by u m) told); in_room = tt }

  module _ (t : MessageType) (n : ℕ) (e : answer_of m (length buffer) ≡ Ok (t, n)) where
    pub other_type : is_plan t ≡ false → Offering None buffer m (Err (refusal 14 0 0)) after
    other_type p = not_filed (Ok (t, n)) 14 0 0 e (rw p)

    filed_strip : is_plan t ≡ true → after ≡ out_after m buffer → take n after ≡ spelling_of MessageType.Fpl m
    unfolding out_after front
    filed_strip p w =
        ap (λ (s : List ℕ). take n s) (w ∙ ap (λ (a : Answer). written_as a m buffer) e)
        ∙ take_at (spelling_of t m) (drop (length (spelling_of t m)) buffer) n (sym (accepted_taken t m (length buffer) n e).long)
        ∙ ap (λ (u : MessageType). spelling_of u m) (plan_type t p)

    pub filed : is_plan t ≡ true → after ≡ out_after m buffer → Offering None buffer m (Ok (just_filed, n)) after
    filed p w =
        let k = accepted_taken t m (length buffer) n e in
        let told : filing_as (answer_of m 1800) ≡ Ok (just_filed, n) = ap filing_as (rw wide at e) ∙ rw p in
        record {
          answer_is = sym told;
          standing_is =
              ap (λ (s : List ℕ). Some (record { strip = s; held = just_filed })) (filed_strip p w) ∙ sym (ap (λ (u : Updated). filed_by u m) told);
          in_room = omega (arith, k.long, k.fits);
        }

-- OFFERING

module _ (f : Flight) (buffer m after : List ℕ) where
  abbrev held : Strip
  held = f.held

  abbrev n : ℕ
  n = f.length

  abbrev standing : Standing
  standing = record { strip = take n buffer; held = held }

  -- the standing after an update's answer
  answered : (u : Updated) → update_of (take n buffer) held m 1800 ≡ u
      → Some (put_as (update_of (take n buffer) held m 1800) (new_after (take n buffer) held m lent) standing)
      ≡ Some (put_as u (new_after (take n buffer) held m lent) standing)
  answered u e = ap (λ (v : Updated). Some (put_as v (new_after (take n buffer) held m lent) standing)) e

  -- a refusal leaves the strip
  pub refused : (number field place : ℕ) → n ≤ 1800 → update_of (take n buffer) held m 1800 ≡ Err (refusal number field place) → after ≡ buffer
      → Offering (Some f) buffer m (Err (refusal number field place)) after
  refused number field place h e w =
      record {
        answer_is = sym e;
        standing_is = ap (λ (s : List ℕ). Some (record { strip = take n s; held = held })) w ∙ sym (answered (Err (refusal number field place)) e);
        in_room = h;
      }

  -- an accepted piece's new strip stands in its place
  pub taken : (next : Strip) (k : ℕ) (new : List ℕ) → update_of (take n buffer) held m 1800 ≡ Ok (next, k)
      → new ≡ new_after (take n buffer) held m lent → length new ≡ 1800 → after ≡ front (take k new) buffer
      → Offering (Some f) buffer m (Ok (next, k)) after
  unfolding front
  taken next k new e q l w =
      let h : k ≤ 1800 = accepted_fits (take n buffer) held m 1800 next k e in
      record {
        answer_is = sym e;
        standing_is =
            ap (λ (s : List ℕ). Some (record { strip = take k s; held = next })) w
            ∙ ap (λ (s : List ℕ). Some (record { strip = s; held = next })) (take_at (take k new) _ k (length-take-le k new (omega arith)))
            ∙ ap (λ (s : List ℕ). Some (record { strip = take k s; held = next })) q
            ∙ sym (answered (Ok (next, k)) e);
        in_room = h;
      }

-- TAKING A PIECE: what the desk then holds, by the case of the answer
pub then_holds : (before : Option Flight) (buffer m after : List ℕ) (r u : Updated) → Offering before buffer m r after → r ≡ u
    → (standing_in (held_after u before) after ≡ standing_after (standing_in before buffer) m) × InRoom (held_after u before)
then_holds before buffer m after r u o e = (rw e at o.standing_is, rw e at o.in_room)

-- DEMAND 3: once a plan is filed, the desk goes by the run of offers that the demand speaks of
pub as_offered : (b : Standing) (ms : List Word) → after_all (Some b) ms ≡ Some (offered_all updater b (map offer_of ms))
as_offered b [] = refl
as_offered b (m ∷ ms) = as_offered (offered updater b (offer_of m)) ms

-- REQUEST 8: what is shown behind a line is the cause of its answer
pub shown_agrees : (b : Standing) (m : List ℕ) → Agree b.held (cause_to (Some b) m) (answer_to (Some b) m)
shown_agrees b m = agrees b.strip b.held m 1800
