-- The rules of a strip on the board (document 02, request 6): a filing is an accepted FPL, an update is the strip's own, and a strip that has
-- arrived or was cancelled may be cleared. Assumes nothing.
use Rattle.std.specs.Prelude.{ℕ, Bool, true, false, cond, List, take, replicate, Ok, Err}
use Rattle.outer.specs.declared.Refusal.{Refusal}
use Rattle.outer.specs.Refusal.{refusal}
use Rattle.message.specs.Answer.{Answer}
use Rattle.message.specs.Reading.{is_plan, answer_of}
use Rattle.state.specs.declared.State.{State}
use Rattle.state.specs.declared.State.TheVariants.{Filed, Departed, Arrived, Cancelled}
use Rattle.strip.specs.Updating.{Updated, update_of, out_after}
use Rattle.history.specs.Demand3.{Standing, filed_as}
use Rattle.rooms.specs.Rooms.{Outcome, House}
use Rattle.rooms.specs.Rooms.Outcome.{takes, refuses}

-- FILING: 1 to 9, 14 for other types, 10
abbrev pub filing_as : Answer → List ℕ → Outcome Standing Refusal
filing_as (Ok (t, n)) m = cond (is_plan t) (takes (filed_as m)) (refuses (refusal 14 0 0))
filing_as (Err r) m = refuses r

-- UPDATING: what the update writes into room for 1,800 bytes
abbrev pub lent : List ℕ
lent = replicate 1800 0

abbrev pub updating_as : Updated → List ℕ → Outcome Standing Refusal
updating_as (Ok (held, n)) out = takes (record { strip = take n out; held = held })
updating_as (Err r) out = refuses r

-- CLEARING: arrived or cancelled
abbrev pub over_in : State → Bool
over_in Filed = false
over_in (Departed t) = false
over_in (Arrived d a t) = true
over_in Cancelled = true

abbrev pub house : House
house =
    record {
      Strip = Standing;
      Message = List ℕ;
      Why = Refusal;
      filing = λ m. filing_as (answer_of m 1800) m;
      updating = λ b m. updating_as (update_of b.strip b.held m 1800) (out_after b.strip b.held m lent);
      over = λ b. over_in b.held.state;
    }
