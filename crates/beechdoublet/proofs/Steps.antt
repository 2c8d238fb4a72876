-- A date by the row of its numbers. Assumes nothing.
use Prim.Native.Nat.{ℕ}
use mathlib.Core.Path.{◌≡◌}
use mathlib.Core.List.{List, [], ◌∷◌}
use lib.ListN.{get_or}
use Rattle.std.specs.Prelude.{Option, Some, None}
use Rattle.dates.specs.declared.Date.{Date}
use Rattle.beechdoublet.specs.Numbers.{date_numbers}

pub date_laid : (d : Option Date) (ns : List ℕ) → ns ≡ date_numbers d
    → get_or ns 0 0 ∷ (get_or ns 1 0 ∷ (get_or ns 2 0 ∷ (get_or ns 3 0 ∷ []))) ≡ date_numbers d
date_laid (Some d) ns e = rw e
date_laid None ns e = rw e
