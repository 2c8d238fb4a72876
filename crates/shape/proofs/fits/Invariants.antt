use mathlib.Core.Path.{◌≡◌}
use Prim.Native.Nat.{◌≤◌}
use lib.ListN.{length, drop}
use Rattle.shape.specs.Shape.{fits}
use Rattle.shape.proofs.fits.Given as goal

abbrev pub invariant-loop-i : goal.invariant-loop-i
invariant-loop-i l = (l.i ≤ length l.t) × (length l.t ≡ length l.w) × (fits l.t l.w ≡ fits (drop l.i l.t) (drop l.i l.w))
