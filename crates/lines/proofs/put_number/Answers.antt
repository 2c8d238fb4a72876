-- `lines::put_number` meets its contract. Assumes nothing.
use Prim.Native.Nat.{ℕ, ◌+◌, ◌<◌, ◌≤◌}
use mathlib.Core.Path.{◌≡◌, ap, ◌∙◌}
use mathlib.Core.List.{List, [], ◌∷◌}
use native.Mathlib.Omega.{arith}
use lib.ListN.{length, length-append, length-drop}
use Rattle.text.proofs.Index.{rest}
use Rattle.text.proofs.Lent.{lent}
use Rattle.canonical.proofs.Turns.{put_same}
use Rattle.lines.specs.Lines.{decimal, numbered}
use Rattle.lines.proofs.Decimal.{as_written}
use Rattle.lines.proofs.Writing.{as_long, stored}
use Rattle.lines.proofs.put_number.Goals as goal

inside : (n at end : ℕ) (out : List ℕ) → at + length (numbered n end) ≤ length out → at + length (decimal n) < length out
inside n at end out h = omega (arith, length-append (decimal n) (end ∷ []), h)

pub put-requires : goal.put-requires
put-requires c =
    let a = c.args in
    let k = c.decimal-k.ensures in
    let digits = k.digits ∙ as_written a.n _ k.len (omega (arith, c.ranges.n.fits)) in
    omega (arith, ap length digits, ap length (rest a.out.now a.at), length-drop a.at a.out.now, inside a.n a.at a.end a.out.now c.requires)

pub bounds-out-e : goal.bounds-out-e
bounds-out-e c =
    let a = c.args in
    let k = c.decimal-k.ensures in
    let digits = k.digits ∙ as_written a.n _ k.len (omega (arith, c.ranges.n.fits)) in
    let room = inside a.n a.at a.end a.out.now c.requires in
    let put = put_same _ digits c.put.ensures in
    let held = lent a.out.now (decimal a.n) a.at c.put.new.out put.1 in
    omega (arith, put.0, room, as_long a.out.now (decimal a.n) _ a.at held (omega (arith, room)))

pub returns : goal.returns
returns c =
    let a = c.args in
    let k = c.decimal-k.ensures in
    let digits = k.digits ∙ as_written a.n _ k.len (omega (arith, c.ranges.n.fits)) in
    let room = inside a.n a.at a.end a.out.now c.requires in
    let put = put_same _ digits c.put.ensures in
    let held = lent a.out.now (decimal a.n) a.at c.put.new.out put.1 in
    let e : a.at + c.put.result ≡ a.at + length (decimal a.n) = omega (arith, put.0) in (
      omega (arith, e, length-append (decimal a.n) (a.end ∷ [])),
      stored a.out.now (decimal a.n) _ a.at _ a.end held e (omega (arith, e, room)),
    )
