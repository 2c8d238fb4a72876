-- `parts::aircraft_in` meets its contract. Assumes nothing.
use Prim.Native.Nat.{ℕ}
use mathlib.Core.Path.{sym, ap}
use native.Mathlib.Omega.{arith}
use lib.ListN.{length, take}
use lib.Seq.{length-take-le}
use Rattle.parts.proofs.Steps.{aircraft_is}
use Rattle.parts.proofs.Fields.{digits_short}
use Rattle.parts.proofs.aircraft_in.Goals as goal

pub slice_bounds-count_of-end : goal.slice_bounds-count_of-end
slice_bounds-count_of-end c =
    sym (length-take-le _ _ c.run-d.ensures.1)

pub count_of-requires : goal.count_of-requires
count_of-requires c =
    let s = c.args.nine.now in
    omega (arith, ap (λ (n : ℕ). length (take n s)) c.run-d.ensures.0, digits_short s c.requires.2)

pub returns : goal.returns
returns c =
    aircraft_is c.args.from c.args.nine.now _ c.run-d.ensures.0 c.run-d.ensures.1 _ c.count_of.ensures
    _ c.aircraft_type-kind.ensures
