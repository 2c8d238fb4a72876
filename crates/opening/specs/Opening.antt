-- How an update and a question for the field in force begin (document 01, "The strip"): 15, then the message is read, and gives 1 to 9, or 14.
-- Assumes nothing.
use Rattle.std.specs.Prelude.{ℕ, ◌≡◌, refl, Bool, false, ◌&&◌, cond, List, leb, Ok, Err}
use Rattle.text.specs.Words.{same}
use Rattle.text.specs.Lent.{front}
use Rattle.space.specs.Fields.{inner}
use Rattle.outer.specs.declared.Refusal.{Refusal}
use Rattle.outer.specs.Outer.{most}
use Rattle.kinds.specs.declared.MessageType.{MessageType}
use Rattle.kinds.specs.declared.MessageType.TheVariants.{Fpl}
use Rattle.message.specs.Answer.{Answer}
use Rattle.message.specs.Reading.{is_plan, spelling_of, answer_of}
use Rattle.state.specs.declared.Strip.{Strip}
use Rattle.state.specs.State.{sound}
use Rattle.outer.specs.Refusal.{refusal}

-- THE STRIP: a canonical accepted FPL

abbrev pub read_as_plan : Answer → Bool
read_as_plan (Ok (t, n)) = is_plan t
read_as_plan (Err r) = false

unfoldable pub canonical_plan : List ℕ → Bool
canonical_plan strip = read_as_plan (answer_of strip most) && same (spelling_of Fpl strip) strip

-- WHAT A MESSAGE SAYS: the text of its canonical spelling, between the parentheses

abbrev pub text_said : MessageType → List ℕ → List ℕ
text_said t m = inner (spelling_of t m)

-- THE ANSWER

-- 1 to 9, in the message as sent; what reading refuses with another number, room enough, is an FPL left unexplained, whose type is not fit: 14
abbrev pub not_read_as : Refusal → Refusal
not_read_as r = cond (leb r.number 9) r (refusal 14 0 0)

abbrev pub read_as : Answer → Answer
read_as (Err r) = Err (not_read_as r)
read_as (Ok (t, n)) = Ok (t, n)

-- 15 first: the strip is a canonical accepted FPL, and its record is sound
unfoldable pub opening_of : List ℕ → Strip → List ℕ → Answer
opening_of strip held m = cond (sound held && canonical_plan strip) (read_as (answer_of m most)) (Err (refusal 15 0 0))

-- THE SCRATCH: a message that was read stands at its front, as it is spelled

abbrev pub scratch_after : Answer → List ℕ → List ℕ → List ℕ
scratch_after (Ok (t, n)) m scratch = front (spelling_of t m) scratch
scratch_after (Err r) m scratch = scratch

-- EXAMPLES, computed

not_read : (not_read_as (refusal 9 22 40) ≡ refusal 9 22 40) × (not_read_as (refusal 10 9 20) ≡ refusal 14 0 0)
not_read = (refl, refl)
