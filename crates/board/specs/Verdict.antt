-- What a call and a look are answered, as values. Assumes nothing.
use Rattle.std.specs.Prelude.{Result}
use Rattle.outer.specs.declared.Refusal.{Refusal}
use Rattle.state.specs.declared.Strip.{Strip}
use Rattle.board.specs.declared.Done.{Done}

-- what was done, or the refusal
abbrev pub Verdict : Type 0
Verdict = Result Done Refusal

-- the record of the strip that stands there, or the refusal
abbrev pub Looked : Type 0
Looked = Result Strip Refusal
