-- An update of a strip, and the field in force, where the strip's state is handed in as eight numbers (handed: specs/States.antt). Assumes nothing.
use Rattle.std.specs.Prelude.{ℕ, Option, None, Some, List, Ok, Err}
use Rattle.text.specs.Words.{Word}
use Rattle.space.specs.Fields.{inner}
use Rattle.force.specs.InForce.{in_force}
use Rattle.strip.specs.Updating.{Updated, update_of, out_after}
use Rattle.asked.specs.Asking.{Asked, asked_of, rank_of}
use Rattle.state.specs.declared.Strip.{Strip}
use Rattle.handed.specs.States.{state_numbers, byte_of}
use Rattle.outer.specs.Refusal.{refusal}

-- AN UPDATE OF A STRIP WITH SUCH NUMBERS: 15 where they are no state. The numbers afterwards are those of the new state, or as they were

abbrev pub update_as : Option Strip → List ℕ → List ℕ → ℕ → Updated
update_as (Some held) strip m room = update_of strip held m room
update_as None strip m room = Err (refusal 15 0 0)

abbrev pub out_as : Option Strip → List ℕ → List ℕ → List ℕ → List ℕ
out_as (Some held) strip m out = out_after strip held m out
out_as None strip m out = out

abbrev pub state_as : Updated → List ℕ → List ℕ
state_as (Ok (held, n)) ns = state_numbers held.state
state_as (Err r) ns = ns

-- THE FIELD IN FORCE OF SUCH A STRIP: 15 where the numbers are no state. A number over 255 is asked for as 0, which is no field's either

abbrev pub asked_as : Option Strip → List ℕ → List ℕ → ℕ → Asked
asked_as (Some held) strip chg number = asked_of strip held chg (byte_of number)
asked_as None strip chg number = Err (refusal 15 0 0)

-- the content that stands there
abbrev pub content_asked : List ℕ → List ℕ → ℕ → Word
content_asked strip chg number = in_force (inner strip) (inner chg) (rank_of (byte_of number))
