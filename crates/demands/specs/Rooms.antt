-- How big a buffer (document 02, request 11): what reading and an update need, and that with that much lent 11 is never given. Assumes nothing.
use Rattle.std.specs.Prelude.{ℕ, ◌+◌, ◌≤◌, ◌≡◌, List, length, Ok, Err}
use Rattle.outer.specs.Outer.{most}
use Rattle.kinds.specs.declared.MessageType.{MessageType}
use Rattle.message.specs.Reading.{answer_of}
use Rattle.state.specs.declared.Strip.{Strip}
use Rattle.strip.specs.Updating.{update_of}
use Rattle.outer.specs.Refusal.{refusal}

-- READING never needs more room than the message has bytes

pub record ReadingNeeds (m : List ℕ) (room : ℕ) : Type 0 where
  -- the spelling is no longer than the message
  pub spelling : (t : MessageType) (n : ℕ) → answer_of m room ≡ Ok (t, n) → n ≤ length m
  -- so 11 is not an answer where as many bytes are lent, nor where 1,800 are
  pub lent_message : length m ≤ room → (field place : ℕ) → answer_of m room ≡ Err (refusal 11 field place) → ⊥
  pub lent_most : most ≤ room → (field place : ℕ) → answer_of m room ≡ Err (refusal 11 field place) → ⊥

-- AN UPDATE never needs more than strip and message together

pub record UpdateNeeds (strip : List ℕ) (held : Strip) (m : List ℕ) (room : ℕ) : Type 0 where
  -- the new strip is no longer than the two
  pub spelling : (next : Strip) (n : ℕ) → update_of strip held m room ≡ Ok (next, n) → n ≤ length strip + length m
  -- so 11 is not an answer where as many bytes are lent, nor where 1,800 are
  pub lent_both : length strip + length m ≤ room → (field place : ℕ) → update_of strip held m room ≡ Err (refusal 11 field place) → ⊥
  pub lent_most : most ≤ room → (field place : ℕ) → update_of strip held m room ≡ Err (refusal 11 field place) → ⊥
