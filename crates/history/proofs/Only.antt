-- The third demand determines an updater's strips: any updater that meets it has, after every run, the strip and the record that the update has.
-- Assumes nothing.
use Prim.Native.Nat.{ℕ}
use mathlib.Core.Path.{◌≡◌, refl, sym, ap, ap₂, subst, ◌∙◌}
use mathlib.Core.Bool.{false≢true}
use mathlib.Core.List.{List, [], ◌∷◌, ◌++◌, append_assoc}
use lib.ListN.{length}
use Rattle.std.specs.Prelude.{None, Ok, Err}
use Rattle.sent.specs.Sent.{contents}
use Rattle.kinds.specs.declared.MessageType.TheVariants.{Fpl}
use Rattle.message.specs.Reading.{answer_of}
use Rattle.state.specs.declared.State.{State}
use Rattle.state.specs.declared.State.TheVariants.{Filed}
use Rattle.state.specs.declared.Strip.{Strip}
use Rattle.strip.specs.Updating.{Updated, update_of}
use Rattle.history.specs.History.{plan_in, spelled, Told, Departure, departs, becomes, latest, plan_by, held_by}
use Rattle.history.specs.Demand3.{Updater, updater, Standing, Offer, told, entered_as, answered, offered, offered_all, log_all, Cause, filed_as, Meets}
use Rattle.history.proofs.Causes.{refused_cause}
use Rattle.history.proofs.Latest.{left_latest}
use Rattle.history.proofs.Demand3.{demand3}
use Rattle.history.proofs.Refuted.{accepts, meets_strip, meets_refused}
use Rattle.outer.specs.Refusal.{refusal}

-- A RUN AND ONE OFFER MORE

pub standing_last : (U : Updater) (run : List Offer) (b : Standing) (o : Offer) → offered_all U b (run ++ (o ∷ [])) ≡ offered U (offered_all U b run) o
standing_last U [] b o = refl
standing_last U (x ∷ run) b o = standing_last U run (offered U b x) o

pub log_last : (U : Updater) (run : List Offer) (b : Standing) (log : List Told) (o : Offer)
    → log_all U b log (run ++ (o ∷ [])) ≡ entered_as (answered U (offered_all U b run) o) o.bytes (log_all U b log run)
log_last U [] b log o = refl
log_last U (x ∷ run) b log o = log_last U run (offered U b x) (entered_as (answered U b x) x.bytes log) o

none_more : (run : List Offer) → run ++ [] ≡ run
none_more [] = refl
none_more (x ∷ run) = ap (λ (r : List Offer). x ∷ r) (none_more run)

module _ (m : List ℕ) (room n : ℕ) (e : answer_of m room ≡ Ok (Fpl, n)) where
  meets_held : (U : Updater) → Meets U → (run : List Offer) → (offered_all U (filed_as m) run).held ≡ held_by (log_all U (filed_as m) [] run)
  meets_held U h run =
      let d = h m room n e run in
      let log = log_all U (filed_as m) [] run in
      d.held_is
      ∙ ap {B = Strip} (λ (x : State). record { state = x })
      (left_latest (becomes d.departure) Filed log d.held.state d.stated
      ∙ ap (λ (x : Departure). latest (becomes x) Filed log) (left_latest departs None log d.departure d.departed))

  module _ (U : Updater) (h : Meets U) where
    abbrev SameLog : List Offer → Type 0
    SameLog run = log_all U (filed_as m) [] run ≡ log_all updater (filed_as m) [] run

    same_strip : (run : List Offer) → SameLog run → (offered_all U (filed_as m) run).strip ≡ (offered_all updater (filed_as m) run).strip
    same_strip run q =
        meets_strip U h m room n e run
        ∙ ap (λ (log : List Told). spelled (plan_by (plan_in (contents m)) log)) q
        ∙ sym (meets_strip updater demand3 m room n e run)

    same_held : (run : List Offer) → SameLog run → (offered_all U (filed_as m) run).held ≡ (offered_all updater (filed_as m) run).held
    same_held run q = meets_held U h run ∙ ap held_by q ∙ sym (meets_held updater demand3 run)

    module _ (run : List Offer) (o : Offer) (q : SameLog run) where
      abbrev theirs : Standing
      theirs = offered_all U (filed_as m) run

      abbrev ours : Standing
      ours = offered_all updater (filed_as m) run

      same_update : update_of theirs.strip theirs.held o.bytes (length o.lent) ≡ update_of ours.strip ours.held o.bytes (length o.lent)
      same_update = ap₂ (λ (w : List ℕ) (x : Strip). update_of w x o.bytes (length o.lent)) (same_strip run q) (same_held run q)

      -- it refuses what the update refuses
      also_refused : (number field place : ℕ) → answered updater ours o ≡ Err (refusal number field place)
          → answered U theirs o ≡ Err (refusal number field place)
      also_refused number field place r =
          let d = h m room n e run in
          d.cause_refused o number field place
          (subst (λ (w : List ℕ). Cause w d.held o.bytes (length o.lent) number field place) d.strip_is
          (subst (λ (x : Strip). Cause theirs.strip x o.bytes (length o.lent) number field place) d.held_is
          (refused_cause theirs.strip theirs.held o.bytes (length o.lent) number field place (same_update ∙ r))))

      entered_same : (u v : Updated) → answered U theirs o ≡ u → answered updater ours o ≡ v
          → entered_as u o.bytes (log_all U (filed_as m) [] run) ≡ entered_as v o.bytes (log_all updater (filed_as m) [] run)
      entered_same (Ok (held, k)) (Ok (held', k')) x y = ap (λ (log : List Told). told o.bytes ∷ log) q
      entered_same (Err r) (Err r') x y = q
      entered_same (Err r) (Ok (held, k)) x y =
          absurd (false≢true (sym (ap accepts (sym same_update ∙ meets_refused U h m room n e run o r.number r.field r.place x)) ∙ ap accepts y))
      entered_same (Ok (held, k)) (Err r) x y = absurd (false≢true (sym (ap accepts (also_refused r.number r.field r.place y)) ∙ ap accepts x))

      one_more_lem : SameLog (run ++ (o ∷ []))
      one_more_lem =
          log_last U run (filed_as m) [] o
          ∙ entered_same (answered U theirs o) (answered updater ours o) refl refl
          ∙ sym (log_last updater run (filed_as m) [] o)

    same_from : (rest run : List Offer) → SameLog run → SameLog (run ++ rest)
    same_from [] run q = subst SameLog (sym (none_more run)) q
    same_from (o ∷ rest) run q = subst SameLog (append_assoc run (o ∷ []) rest) (same_from rest (run ++ (o ∷ [])) (one_more_lem run o q))

    pub same_log : (run : List Offer) → SameLog run
    same_log run = same_from run [] refl

    -- after every run: the same strip, the same record
    pub only_one : (run : List Offer) → offered_all U (filed_as m) run ≡ offered_all updater (filed_as m) run
    only_one run = λ i. record { strip = same_strip run (same_log run) i; held = same_held run (same_log run) i }

    -- and the same refusals
    pub only_refusals : (run : List Offer) (o : Offer) (number field place : ℕ)
        → answered updater (offered_all updater (filed_as m) run) o ≡ Err (refusal number field place)
        → answered U (offered_all U (filed_as m) run) o ≡ Err (refusal number field place)
    only_refusals run o number field place r = also_refused run o (same_log run) number field place r
