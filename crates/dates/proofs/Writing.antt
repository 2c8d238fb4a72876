-- A part that is written behind what is written. Assumes nothing.
use Prim.Native.Nat.{ℕ, ◌+◌, ◌-◌, ◌≤◌}
use mathlib.Core.Path.{◌≡◌, ap, ◌∙◌}
use mathlib.Core.List.{List, ◌++◌}
use native.Mathlib.Omega.{arith}
use lib.ListN.{length, take, drop, length-append, length-drop}
use Rattle.text.proofs.Index.{rest}
use Rattle.text.proofs.Lent.{lent, length_front}
use Rattle.canonical.proofs.Turns.{halves}
use Rattle.dates.specs.Dates.{Puts}

-- u was written, and there is room for v behind it
module _ (u v out : List ℕ) {mid : List ℕ} {n : ℕ} (first : Puts u n out mid) (room : length (u ++ v) ≤ length out) where
  as_long : length mid ≡ length out
  as_long = ap length first.1 ∙ length_front u out (omega (arith, length-append u v))

  pub inside : n + length v ≤ length mid
  inside = omega (arith, length-append u v, as_long)

  pub fits_behind : length v ≤ length (take (length mid - n) (drop n mid))
  fits_behind = omega (arith, ap length (rest mid n), length-drop n mid, inside)

  pub put_behind : (ys : List ℕ) (r : ℕ) → Puts v r (take (length mid - n) (drop n mid)) ys
      → Puts (u ++ v) (n + r) out (take n mid ++ (ys ++ drop (length mid - n) (drop n mid)))
  put_behind ys r second =
      (omega (arith, length-append u v, second.0), lent mid v n ys second.1 ∙ halves u v out mid n first.0 first.1)
