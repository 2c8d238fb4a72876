-- `lines::put_around` meets its contract. Assumes nothing.
use Prim.Native.Nat.{◌+◌}
use mathlib.Core.Path.{◌≡◌}
use native.Mathlib.Omega.{arith}
use Rattle.canonical.proofs.Turns.{put_same}
use Rattle.lines.proofs.Writing.{seven, around}
use Rattle.lines.proofs.put_around.Goals as goal

pub returns : goal.returns
returns c =
    let a = c.args in
    let p = put_same a.out.now c.opening_of.ensures c.put.ensures in
    let e : c.put.result + a.n ≡ 7 + a.n = omega (arith, p.0, seven a.t) in
    (omega (arith, e), around a.t a.out.now _ a.n _ p.1 e (omega (arith, e, c.requires)))
