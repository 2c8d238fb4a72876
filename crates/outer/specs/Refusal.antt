-- A refusal of document 01's table, and what may be refused. Assumes nothing.
use Rattle.std.specs.Prelude.{ℕ, Result}
use Rattle.outer.specs.declared.Refusal.{Refusal}

-- its number, the number of the field that it names, 0 for none, and its place
abbrev pub refusal : ℕ → ℕ → ℕ → Refusal
refusal n f p = record { number = n; field = f; place = p }

-- what passes, or is refused
abbrev pub Checked : Type 0
Checked = Result Unit Refusal
