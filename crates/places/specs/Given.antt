-- What is known behind a word, on a condition. Assumes nothing.
use Rattle.std.specs.Prelude.{Bool, cond, Option, Some, None}

abbrev pub given : {A : Type 0} → Bool → A → Option A
given b k = cond b (Some k) None
