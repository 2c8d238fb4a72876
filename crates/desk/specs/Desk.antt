-- The desk: what it holds, what it answers to a piece of its input, and what it holds after that. Assumes nothing.
use Rattle.std.specs.Prelude.{ℕ, ◌≤◌, ◌≡◌, refl, cond, List, [], ◌∷◌, take, replicate, Option, None, Some, Ok, Err}
use Rattle.alphabet.specs.Text.{bytes}
use Rattle.text.specs.Words.{Word}
use Rattle.outer.specs.Outer.{most}
use Rattle.kinds.specs.declared.MessageType.TheVariants.{Fpl, Cnl}
use Rattle.message.specs.Answer.{Answer}
use Rattle.message.specs.Reading.{is_plan, answer_of}
use Rattle.state.specs.declared.State.TheVariants.{Cancelled}
use Rattle.state.specs.State.{just_filed}
use Rattle.strip.specs.Updating.{Updated, update_of}
use Rattle.causes.specs.declared.Cause.{Cause}
use Rattle.causes.specs.declared.Cause.TheVariants.{NothingMore}
use Rattle.causes.specs.Causes.{cause_of}
use Rattle.history.specs.Demand3.{Standing, Offer, updater, offered, filed_as}
use Rattle.racks.specs.declared.Flight.{Flight}
use Rattle.outer.specs.Refusal.{refusal}

-- THE BOARD: nothing, or a strip with its record

-- as the program keeps it: the strip in the first bytes of a buffer
abbrev pub standing_in : Option Flight → List ℕ → Option Standing
standing_in None buffer = None
standing_in (Some f) buffer = Some (record { strip = take f.length buffer; held = f.held })

abbrev pub InRoom : Option Flight → Type 0
InRoom None = Unit
InRoom (Some f) = f.length ≤ most

-- THE ANSWER: before there is a strip an accepted FPL is filed, and another type is not fit; once there is one, each piece is offered to it

abbrev pub filing_as : Answer → Updated
filing_as (Ok (t, n)) = cond (is_plan t) (Ok (just_filed, n)) (Err (refusal 14 0 0))
filing_as (Err r) = Err r

abbrev pub answer_to : Option Standing → List ℕ → Updated
answer_to None m = filing_as (answer_of m most)
answer_to (Some b) m = update_of b.strip b.held m most

-- and why, where it is a refusal: what is shown of an update
abbrev pub cause_to : Option Standing → List ℕ → Cause
cause_to None m = NothingMore
cause_to (Some b) m = cause_of b.strip b.held m

-- WHAT IT HOLDS AFTERWARDS

-- what is lent for the new strip
abbrev pub lent : List ℕ
lent = replicate most 0

abbrev pub offer_of : List ℕ → Offer
offer_of m = record { bytes = m; lent = lent }

abbrev pub filed_by : Updated → List ℕ → Option Standing
filed_by (Ok (held, n)) m = Some (filed_as m)
filed_by (Err r) m = None

abbrev pub standing_after : Option Standing → List ℕ → Option Standing
standing_after None m = filed_by (answer_to None m) m
standing_after (Some b) m = Some (offered updater b (offer_of m))

-- after each of a list of pieces
abbrev pub after_all : Option Standing → List Word → Option Standing
after_all b [] = b
after_all b (m ∷ ms) = after_all (standing_after b m) ms

abbrev pub held_after : Updated → Option Flight → Option Flight
held_after (Ok (held, n)) before = Some (record { held = held; length = n })
held_after (Err r) before = before

-- what an offer must do: the answer, and what the desk then holds, from what it held and the piece
pub record Offering (before : Option Flight) (buffer piece : List ℕ) (answer : Updated) (buffer' : List ℕ) : Type 0 where
  pub answer_is : answer ≡ answer_to (standing_in before buffer) piece
  pub standing_is : standing_in (held_after answer before) buffer' ≡ standing_after (standing_in before buffer) piece
  pub in_room : InRoom (held_after answer before)

-- EXAMPLES, computed

in_front_lem : standing_in (Some (record { held = record { state = Cancelled }; length = 5 })) (bytes "(FPL)-0)")
    ≡ Some (record { strip = bytes "(FPL)"; held = record { state = Cancelled } })
in_front_lem = refl

-- before there is a strip, only an FPL is fit
first : (filing_as (Ok (Fpl, 70)) ≡ Ok (just_filed, 70)) × (filing_as (Ok (Cnl, 27)) ≡ Err (refusal 14 0 0))
    × (filing_as (Err (refusal 7 13 10)) ≡ Err (refusal 7 13 10))
first = (refl, refl, refl)
