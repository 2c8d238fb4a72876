-- Demand 3 (history: specs/Demand3.antt) beside the other two: what stands on a strip is one of demand 2's records, written out; and the demand
-- as it reads at one call of the update. Assumes nothing.
use Rattle.std.specs.Prelude.{ℕ, ◌≡◌, true, List, [], ◌∷◌, ◌++◌, length, drop, Ok, Err}
use Rattle.sent.specs.Sent.{contents}
use Rattle.kinds.specs.declared.MessageType.TheVariants.{Fpl}
use Rattle.message.specs.Reading.{answer_of}
use Rattle.message.specs.Message.{Message, sent_contents, spelling, valid_message}
use Rattle.state.specs.declared.Strip.{Strip}
use Rattle.strip.specs.Updating.{Updated}
use Rattle.history.specs.Demand3.{updater, Standing, Offer, put_as, entered_as, offered_all, log_all, Cause, Demand3, filed_as}
use Rattle.demands.specs.Demands.{IsRecord}
use Rattle.outer.specs.Refusal.{refusal}

-- THE RECORD ON A STRIP: a valid record of an FPL, the one that the forms allow for the strip's bytes, and they are its spelling
pub record OnStrip (strip : List ℕ) : Type 0 where
  pub of : Message
  pub type_is : of.type ≡ Fpl
  pub valid : valid_message of ≡ true
  pub is_record : IsRecord of strip
  pub spelt : strip ≡ spelling of
  -- field by field it has the strip's contents
  pub fields_are : sent_contents of ≡ contents strip

-- the strip and the offer that a call is given
abbrev pub standing : List ℕ → Strip → Standing
standing strip held = record { strip = strip; held = held }

abbrev pub offer : List ℕ → List ℕ → Offer
offer m out = record { bytes = m; lent = out }

-- the results of `strip::update`: what its contract says
pub record Updates (b : Standing) (o : Offer) (a : Updated) (after : List ℕ) : Type 0 where
  pub answer_is : a ≡ updater.answer b.strip b.held o.bytes o.lent
  pub output_is : after ≡ updater.output b.strip b.held o.bytes o.lent

-- A TURN: the strip b, to which an FPL and a run of offers led, is offered a message more; the answer, and the output afterwards
pub record Turn (filed : List ℕ) (run : List Offer) (b : Standing) (o : Offer) (a : Updated) (after : List ℕ) : Type 0 where
  -- the longer run leads to the strip that was written and to the record that was answered, and the answer says whether its log has the message
  pub standing_is : offered_all updater (filed_as filed) (run ++ (o ∷ [])) ≡ put_as a after b
  pub log_is : log_all updater (filed_as filed) [] (run ++ (o ∷ [])) ≡ entered_as a o.bytes (log_all updater (filed_as filed) [] run)
  -- and all that is demanded of a run holds of it
  pub demanded : Demand3 updater (contents filed) (filed_as filed) (run ++ (o ∷ []))
  -- the message is refused exactly where there is a cause, and then nothing lent is changed
  pub refused_cause : (number field place : ℕ) → a ≡ Err (refusal number field place)
      → Cause b.strip b.held o.bytes (length o.lent) number field place
  pub cause_refused : (number field place : ℕ) → Cause b.strip b.held o.bytes (length o.lent) number field place
      → a ≡ Err (refusal number field place)
  pub unchanged : (number field place : ℕ) → a ≡ Err (refusal number field place) → after ≡ o.lent
  -- of an accepted one the answer gives the new strip's length, and what lies behind it stays
  pub length_is : (next : Strip) (n : ℕ) → a ≡ Ok (next, n) → n ≡ length (put_as a after b).strip
  pub behind_stays : (next : Strip) (n : ℕ) → a ≡ Ok (next, n) → drop n after ≡ drop n o.lent

-- whatever FPL was filed, and whatever run of offers led to the strip
abbrev pub Turns : Standing → Offer → Updated → List ℕ → Type 0
Turns b o a after =
    (filed : List ℕ) (room n : ℕ) → answer_of filed room ≡ Ok (Fpl, n) → (run : List Offer) → offered_all updater (filed_as filed) run ≡ b
    → Turn filed run b o a after
