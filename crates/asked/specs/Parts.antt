-- What a place that was given back says of the bytes that stand there. Assumes nothing.
use Rattle.std.specs.Prelude.{ℕ, suc, ◌-◌, ◌≤◌, ◌≡◌, List, length, take, drop, Ok, Err}
use Rattle.text.specs.Words.{Word}
use Rattle.asked.specs.Asking.{Asked}
use Rattle.asked.specs.declared.Place.TheVariants.{InChange, InStrip}

-- from one place of some bytes to another, this content
abbrev pub PartOf : List ℕ → ℕ → ℕ → Word → Type 0
PartOf s from to w = (from ≤ to) × (to ≤ length s) × (take (to - from) (drop from s) ≡ w)

-- the part of the strip or of the CHG
abbrev pub Shows : Asked → List ℕ → List ℕ → Word → Type 0
Shows (Ok (InStrip from to)) strip chg w = PartOf strip from to w
Shows (Ok (InChange from to)) strip chg w = PartOf chg from to w
Shows (Err r) strip chg w = Unit

-- the same of the texts between the parentheses, in which each place is one less
abbrev pub PartBehind : List ℕ → ℕ → ℕ → Word → Type 0
PartBehind s from to w = (1 ≤ from) × (from ≤ to) × (to ≤ suc (length s)) × (take (to - from) (drop (from - 1) s) ≡ w)

abbrev pub ShowsText : Asked → List ℕ → List ℕ → Word → Type 0
ShowsText (Ok (InStrip from to)) plan said w = PartBehind plan from to w
ShowsText (Ok (InChange from to)) plan said w = PartBehind said from to w
ShowsText (Err r) plan said w = Unit
