-- `text::put` meets its contract. Assumes nothing.
use Prim.Native.Nat.{◌+◌, ◌<◌}
use mathlib.Core.Path.{◌≡◌, refl, ◌∙◌}
use mathlib.Core.List.{[], ◌∷◌}
use lib.ListN.{length, get_or, drop}
use Rattle.text.proofs.Index.{drop_here}
use Rattle.text.proofs.Lent.{store, next_out, whole_out}
use native.Mathlib.Omega.{arith}
use Rattle.text.proofs.put.Goals as goal

pub loop-i-preserved : goal.loop-i-preserved
loop-i-preserved c =
    let l = c.loop-i in
    let a = c.args in
    let part = a.part.now in
    let h : l.i < length part = c.loop-i-test.true in
    store l.out l.i (get_or part l.i 0) (omega (arith, h, l.auto.out, c.requires))
    ∙ next_out part a.out.now l.out l.i l.invariant (omega (arith, h)) (get_or part l.i 0 ∷ []) (drop (l.i + 1) part) (drop_here part l.i h)

pub returns : goal.returns
returns c =
    let l = c.loop-i in
    let z : l.i ≡ length c.args.part.now = omega (arith, l.auto.i-end, c.loop-i-test.false) in
    (refl, whole_out _ _ _ _ l.invariant z)
