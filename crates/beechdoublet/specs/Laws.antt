-- What the laws say of answers and states as numbers (proofs/Laws.antt). Assumes nothing.
use Rattle.std.specs.Prelude.{◌≤◌, Bool, true, false, Ok, Err}
use Rattle.message.specs.Answer.{Answer}
use Rattle.strip.specs.Updating.{Updated}
use Rattle.asked.specs.Asking.{Asked}
use Rattle.parts.specs.Parts.{Part, Planned}
use Rattle.asked.specs.declared.Place.TheVariants.{InChange, InStrip}

abbrev pub was_read : Answer → Bool
was_read (Ok (t, n)) = true
was_read (Err r) = false

abbrev pub was_taken : Updated → Bool
was_taken (Ok (held, n)) = true
was_taken (Err r) = false

abbrev pub was_shown : Asked → Bool
was_shown (Ok (InStrip from to)) = true
was_shown (Ok (InChange from to)) = true
was_shown (Err r) = false

-- a refusal has a number
abbrev pub Numbered : Updated → Type 0
Numbered (Ok (held, n)) = Unit
Numbered (Err r) = 1 ≤ r.number

abbrev pub Told : Asked → Type 0
Told (Ok (InStrip from to)) = Unit
Told (Ok (InChange from to)) = Unit
Told (Err r) = 1 ≤ r.number

abbrev pub was_given : Part → Bool
was_given (Ok s) = true
was_given (Err r) = false

abbrev pub Given : Part → Type 0
Given (Ok s) = Unit
Given (Err r) = 1 ≤ r.number

abbrev pub was_planned : Planned → Bool
was_planned (Ok p) = true
was_planned (Err r) = false

abbrev pub NumberedPlan : Planned → Type 0
NumberedPlan (Ok p) = Unit
NumberedPlan (Err r) = 1 ≤ r.number
