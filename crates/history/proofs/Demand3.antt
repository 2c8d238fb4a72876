-- THE THIRD DEMAND: `demand3` is the theorem to read. An accepted update leaves a strip that may be offered the next message, and after any
-- run the strip is the history's. Assumes nothing.
use Prim.Native.Nat.{ℕ, ◌≤◌}
use mathlib.Core.Path.{◌≡◌, refl, sym, ap, subst, fun_ext, ◌∙◌}
use mathlib.Core.Bool.{true}
use mathlib.Core.List.{List, [], ◌∷◌, ◌++◌}
use mathlib.Core.Option.{get_or}
use native.Mathlib.Omega.{arith}
use lib.ListN.{length, take, drop}
use lib.Seq.{take_at, drop_at}
use Rattle.std.specs.Prelude.{None}
use Rattle.text.specs.Words.{Word}
use Rattle.text.specs.Lent.{front}
use Rattle.sent.specs.Sent.{message_of, contents}
use Rattle.kinds.specs.declared.MessageType.TheVariants.{Fpl}
use Rattle.kinds.specs.Kinds.{role_of}
use Rattle.message.specs.Answer.{Answer}
use Rattle.message.specs.Reading.{count_of, answer_of, unexplained_in}
use Rattle.message.proofs.Reached.{accepted_taken}
use Rattle.message.proofs.Valid.{Fitting, reached_passed}
use Rattle.message.proofs.Canonical.{accepted_shorter}
use Rattle.state.specs.declared.State.{State}
use Rattle.state.specs.declared.State.TheVariants.{Filed}
use Rattle.state.specs.declared.Strip.{Strip}
use Rattle.state.specs.State.{just_filed, sound, next_state}
use Rattle.state.proofs.Laws.{next_sound}
use Rattle.strip.specs.Updating.{Updated, type_read, strip_after, written_as, update_of, out_after}
use Rattle.amending.specs.Amended.{new_strip}
use Rattle.history.specs.History.{Part, Plan, plan_in, nine, spelled, Told, given, with_told, departs, becomes, Left, plan_by, departure_by, state_by}
use Rattle.history.specs.Demand3.{updater, Standing, Offer, told, put_as, entered_as, answered, offered, offered_all, log_all}
use Rattle.history.specs.Demand3.{Proper, allowed, plan_on, amended_on, Cause, Demand3, filed_as, Meets}
use Rattle.history.specs.Demand3.Cause.{not_proper, not_read, not_fit, no_type, another_flight, not_allowed, unexplained, too_long, no_room_lem}
use Rattle.history.proofs.Strip.{plain_spelling, strip_contents, strip_proper, fpl_fits, proper_stripped}
use Rattle.history.proofs.Amended.{nine_plan, amended_fits, amended_part}
use Rattle.history.proofs.Causes.{event, event_sound, sayings, told_is, read_fitting, amended_on_lem, Took, Verdict, verdict, refused_cause, cause_refused}
use Rattle.history.proofs.Latest.{latest_left, state_moved}
use Rattle.std.specs.Prelude.{Ok, Err}
use Rattle.outer.specs.Refusal.{refusal}

-- AN ACCEPTED MESSAGE

module _ (strip : List ℕ) (s : Strip) (m : List ℕ) (room : ℕ) (held : Strip) (n : ℕ) (k : Took strip s m room held n) where
  pub fits : Fitting k.passes.type (count_of m) (contents m)
  fits = read_fitting strip s m room k.passes.proper k.passes.type k.passes.long k.passes.read

  pub heard : told m ≡ record { type = k.passes.type; fields = contents m }
  heard = told_is strip s m room k.passes.proper k.passes.type k.passes.long k.passes.read

  -- the amended contents fit an FPL's forms
  pub took_fits : Fitting Fpl 9 (nine (amended_on strip m))
  took_fits =
      let e = ap (λ (x : Told). nine (with_told (plan_on strip) x)) heard in
      subst (Fitting Fpl 9) (sym e)
      (amended_fits (contents strip) (contents m) (proper_stripped strip s k.passes.proper).fits k.passes.type
      (sayings k.passes.type (count_of m) (contents m) fits) (ap unexplained_in (sym e) ∙ k.explains))

  took_part : (f : Part) → plan_in (nine (amended_on strip m)) f ≡ amended_on strip m f
  took_part f =
      let e = ap (λ (x : Told). with_told (plan_on strip) x) heard in
      ap (λ (p : Plan). plan_in (nine p) f) e
      ∙ amended_part (contents strip) (contents m) (proper_stripped strip s k.passes.proper).fits k.passes.type
      (sayings k.passes.type (count_of m) (contents m) fits) f
      ∙ sym (ap (λ (p : Plan). p f) e)

  -- the state is sound
  took_sound : sound held ≡ true
  took_sound =
      ap sound k.moved
      ∙ next_sound s (event (role_of k.passes.type) (contents m)) k.passes.proper.held_sound
      (event_sound k.passes.type (count_of m) (contents m) fits (role_of k.passes.type) refl)

  -- an accepted update leaves a canonical accepted FPL and a sound state
  pub took_proper : Proper (spelled (amended_on strip m)) held
  took_proper = strip_proper (nine (amended_on strip m)) took_fits k.short held took_sound

  -- whose plan is the amended one
  pub took_plan : (f : Part) → plan_on (spelled (amended_on strip m)) f ≡ amended_on strip m f
  took_plan f = ap (λ (cs : List Word). plan_in cs f) (strip_contents (nine (amended_on strip m)) took_fits) ∙ took_part f

  took_new : strip_after (type_read (answer_of m 1800)) strip m ≡ spelled (amended_on strip m)
  unfolding new_strip
  took_new =
      ap (λ (r : Answer). strip_after (type_read r) strip m) k.passes.read
      ∙ ap message_of (amended_on_lem strip s m room k.passes.proper k.passes.type k.passes.long k.passes.read k.passes.fit)

  -- and it is written: as many bytes as the answer says
  pub took_written : (out : List ℕ) → update_of strip s m (length out) ≡ Ok (held, n) → take n (out_after strip s m out) ≡ spelled (amended_on strip m)
  unfolding out_after front
  took_written out e =
      let w = spelled (amended_on strip m) in
      ap (λ (u : Updated). take n (written_as u strip m out)) e
      ∙ ap (λ (x : List ℕ). take n (x ++ drop (length x) out)) took_new
      ∙ take_at w (drop (length w) out) n (sym k.long)

  -- and what lies behind stays
  pub took_behind : (out : List ℕ) → update_of strip s m (length out) ≡ Ok (held, n) → drop n (out_after strip s m out) ≡ drop n out
  unfolding out_after front
  took_behind out e =
      let w = spelled (amended_on strip m) in
      ap (λ (u : Updated). drop n (written_as u strip m out)) e
      ∙ ap (λ (x : List ℕ). drop n (x ++ drop (length x) out)) took_new
      ∙ drop_at w (drop (length w) out) n (sym k.long)
      ∙ ap (λ (i : ℕ). drop i out) (sym k.long)

-- WHAT STANDS BY A LOG

pub record Stands (filed : Plan) (b : Standing) (log : List Told) : Type 0 where
  pub proper : Proper b.strip b.held
  pub plan_is : (f : Part) → plan_on b.strip f ≡ plan_by filed log f
  pub state_is : b.held.state ≡ state_by log

-- the strip is the spelling of the history's plan
pub stands_spelled : (filed : Plan) (b : Standing) (log : List Told) → Stands filed b log → b.strip ≡ spelled (plan_by filed log)
stands_spelled filed b log k =
    let p = proper_stripped b.strip b.held k.proper in
    p.spelt
    ∙ ap message_of (sym (nine_plan (contents b.strip) p.fits))
    ∙ ap spelled (fun_ext (λ f. k.plan_is f))

module _ (filed : Plan) where
  -- one accepted message more
  took_stands : (b : Standing) (log : List Told) (m : List ℕ) (room : ℕ) (held : Strip) (n : ℕ) (w : List ℕ) → Stands filed b log
      → (k : Took b.strip b.held m room held n) → w ≡ spelled (amended_on b.strip m)
      → Stands filed (record { strip = w; held = held }) (told m ∷ log)
  took_stands b log m room held n w h k e =
      record {
        proper = subst (λ (x : List ℕ). Proper x held) (sym e) (took_proper b.strip b.held m room held n k);
        plan_is = λ f.
            ap (λ (x : List ℕ). plan_on x f) e
            ∙ took_plan b.strip b.held m room held n k f
            ∙ ap (λ (v : List ℕ). get_or (given f (told m)) v) (h.plan_is f);
        state_is =
            ap (λ (x : Strip). x.state) k.moved
            ∙ ap (λ (x : State). next_state x (event (role_of k.passes.type) (contents m))) h.state_is
            ∙ state_moved log k.passes.type (contents m) (ap (λ (x : State). allowed x k.passes.type) (sym h.state_is) ∙ k.passes.permits)
            ∙ ap (λ (x : Told). state_by (x ∷ log)) (sym (heard b.strip b.held m room held n k));
      }

  -- one offer more
  stepped : (b : Standing) (log : List Told) (o : Offer) → Stands filed b log → (u : Updated) → update_of b.strip b.held o.bytes (length o.lent) ≡ u
      → Stands filed (put_as u (out_after b.strip b.held o.bytes o.lent) b) (entered_as u o.bytes log)
  stepped b log o h (Ok (held, n)) e =
      let room = length o.lent in
      let k : Took b.strip b.held o.bytes room held n
      = subst (Verdict b.strip b.held o.bytes room) e (verdict b.strip b.held o.bytes room) in
      took_stands b log o.bytes room held n (take n (out_after b.strip b.held o.bytes o.lent)) h k
      (took_written b.strip b.held o.bytes room held n k o.lent e)
  stepped b log o h (Err r) e = h

  -- after any run the strip is the history's
  pub kept_on : (run : List Offer) (b : Standing) (log : List Told) → Stands filed b log → Stands filed (offered_all updater b run) (log_all updater b log run)
  kept_on [] b log h = h
  kept_on (o ∷ os) b log h =
      kept_on os (offered updater b o) (entered_as (answered updater b o) o.bytes log) (stepped b log o h (answered updater b o) refl)

-- AS FILED

pub filed_stands : (m : List ℕ) (room n : ℕ) → answer_of m room ≡ Ok (Fpl, n) → Stands (plan_in (contents m)) (filed_as m) []
filed_stands m room n e =
    let k = accepted_taken Fpl m room n e in
    let f = fpl_fits m k.reached in
    let spelt = plain_spelling Fpl m refl k.reached in
    let short : length (message_of (contents m)) ≤ 1800
    = omega (arith, ap length spelt, k.long, accepted_shorter m room Fpl n e, (reached_passed Fpl m k.reached).short) in
    record {
      proper = subst (λ (w : List ℕ). Proper w just_filed) (sym spelt) (strip_proper (contents m) f short just_filed refl);
      plan_is = λ p. ap (λ (w : List ℕ). plan_on w p) spelt ∙ ap (λ (cs : List Word). plan_in cs p) (strip_contents (contents m) f);
      state_is = refl;
    }

-- THE THIRD DEMAND

-- a refusal leaves the output
pub refused_stays : (strip : List ℕ) (s : Strip) (m out : List ℕ) (number field place : ℕ) → update_of strip s m (length out) ≡ Err (refusal number field place)
    → out_after strip s m out ≡ out
unfolding out_after
refused_stays strip s m out number field place e = ap (λ (u : Updated). written_as u strip m out) e

-- the length that is answered is that of the strip which is put down
pub stepped_length : (b : Standing) (o : Offer) (held : Strip) (n : ℕ) → answered updater b o ≡ Ok (held, n) → n ≡ length (offered updater b o).strip
stepped_length b o held n q =
    let room = length o.lent in
    let k : Took b.strip b.held o.bytes room held n
    = subst (Verdict b.strip b.held o.bytes room) q (verdict b.strip b.held o.bytes room) in
    k.long
    ∙ sym (ap length (took_written b.strip b.held o.bytes room held n k o.lent q))
    ∙ sym (ap (λ (u : Updated). length (put_as u (out_after b.strip b.held o.bytes o.lent) b).strip) q)

pub demand3 : Meets updater
demand3 m room n e run =
    let filed = plan_in (contents m) in
    let b = offered_all updater (filed_as m) run in
    let log = log_all updater (filed_as m) [] run in
    let h : Stands filed b log = kept_on filed run (filed_as m) [] (filed_stands m room n e) in
    let spelt : b.strip ≡ spelled (plan_by filed log) = stands_spelled filed b log h in
    record {
      plan = plan_by filed log;
      departure = departure_by log;
      held = b.held;
      strip_is = spelt;
      held_is = refl;
      stays_proper = subst (λ (w : List ℕ). Proper w b.held) spelt h.proper;
      parts = λ f. latest_left (given f) (filed f) log;
      departed = latest_left departs None log;
      stated = subst (Left (becomes (departure_by log)) Filed log) (sym h.state_is) (latest_left (becomes (departure_by log)) Filed log);
      refused_cause = λ o number field place q.
          subst (λ (w : List ℕ). Cause w b.held o.bytes (length o.lent) number field place) spelt
          (refused_cause b.strip b.held o.bytes (length o.lent) number field place q);
      cause_refused = λ o number field place c.
          cause_refused b.strip b.held o.bytes (length o.lent) number field place
          (subst (λ (w : List ℕ). Cause w b.held o.bytes (length o.lent) number field place) (sym spelt) c);
      unchanged = λ o number field place q. refused_stays b.strip b.held o.bytes o.lent number field place q;
      length_is = λ o held k q. stepped_length b o held k q;
      behind_stays = λ o held k q.
          took_behind b.strip b.held o.bytes (length o.lent) held k
          (subst (Verdict b.strip b.held o.bytes (length o.lent)) q (verdict b.strip b.held o.bytes (length o.lent)))
          o.lent q;
    }

-- so number 15 never comes from the updater's own strips
pub never_fifteen : (m : List ℕ) (room n : ℕ) → answer_of m room ≡ Ok (Fpl, n) → (run : List Offer) (o : Offer) (field place : ℕ)
    → answered updater (offered_all updater (filed_as m) run) o ≡ Err (refusal 15 field place) → ⊥
never_fifteen m room n e run o field place q = go (d.refused_cause o 15 field place q) refl
  where
    d : Demand3 updater (contents m) (filed_as m) run
    d = demand3 m room n e run

    go : {number f p : ℕ} → Cause (spelled d.plan) d.held o.bytes (length o.lent) number f p → number ≡ 15 → ⊥
    go (not_proper h) z = h d.stays_proper
    go (not_read p x l) z = omega (arith, l, z)
    go (not_fit p x) z = omega (arith, z)
    go (no_type p x y) z = omega (arith, z)
    go (another_flight p x y w) z = omega (arith, z)
    go (not_allowed p x y w a) z = omega (arith, z)
    go (unexplained k u) z = omega (arith, z)
    go (too_long k u l) z = omega (arith, z)
    go (no_room_lem k u l r) z = omega (arith, z)
