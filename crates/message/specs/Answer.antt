-- The answer to a message, and what is wrong with its fields, as values. Assumes nothing.
use Rattle.std.specs.Prelude.{ℕ, Result}
use Rattle.outer.specs.declared.Refusal.{Refusal}
use Rattle.kinds.specs.declared.MessageType.{MessageType}
use Rattle.message.specs.declared.FieldFault.{FieldFault}

-- its type and the length of its spelling, or the refusal
abbrev pub Answer : Type 0
Answer = Result (MessageType × ℕ) Refusal

-- a number, and the place of the field among the fields, counted from 0
abbrev pub fault_at : ℕ → ℕ → FieldFault
fault_at number field = record { number = number; field = field }

-- whether the fields are right
abbrev pub Fault : Type 0
Fault = Result Unit FieldFault
