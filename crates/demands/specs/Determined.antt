-- What it is for a contract to determine a result: any two results that it allows are equal. Assumes nothing.
use Rattle.std.specs.Prelude.{◌≡◌}

abbrev pub Determines : (A : Type 0) → (A → Type 0) → Type 0
Determines A allows = (x y : A) → allows x → allows y → x ≡ y
