-- `places::time_behind` meets its contract. Assumes nothing.
use native.Mathlib.Omega.{arith}
use Rattle.places.specs.Parts.{time_place}
use Rattle.places.proofs.Fixed.{time_within}
use Rattle.places.proofs.Index.{behind_within}
use Rattle.places.proofs.time_behind.Goals as goal

pub overflow_add-result : goal.overflow_add-result
overflow_add-result c =
    let a = c.args in
    omega (arith, behind_within (time_place a.most) (time_within a.most) a.w.now a.m c.time_place.result (omega arith) c.time_place.ensures)
