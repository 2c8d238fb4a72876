-- Field 22 of a CHG: contents that fit and valid records determine one another. Assumes nothing.
use Prim.Native.Nat.{ℕ}
use mathlib.Core.Path.{◌≡◌}
use mathlib.Core.Bool.{true}
use mathlib.Core.List.{List}
use Rattle.shape.specs.Field.{Laws}
use Rattle.forms.specs.Field22.{changes, valid22, fits22, field22}
use Rattle.forms.proofs.Entry.{Fitting, entry_fitting, entry_laws}
use Rattle.forms.proofs.Labels.{changes_sound}

pub fitting : (s : List ℕ) → fits22 s ≡ true → Fitting changes s
unfolding fits22
fitting s e = entry_fitting changes s e

pub field22_laws : Laws field22
unfolding valid22 fits22
field22_laws = entry_laws changes changes_sound
