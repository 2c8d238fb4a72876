-- `space::reduce` meets its contract. Assumes nothing.
use Prim.Native.Nat.{◌+◌, ◌*◌, ◌/◌}
use mathlib.Core.Path.{◌≡◌, sym, ◌∙◌}
use Rattle.space.proofs.Part.{parts_start, part_reduced, part_copied, parts_end}
use native.Mathlib.Omega.{arith}
use Rattle.space.proofs.reduce.Goals.{then-all_regular, else-all_regular}
use Rattle.space.proofs.reduce.Goals as goal

pub loop-k-init : goal.loop-k-init
loop-k-init c =
    (omega arith, parts_start _ _)

pub loop-k-preserved : goal.loop-k-preserved
loop-k-preserved c =
    let l = c.loop-k in
    let z : 16 * (l.k + 1) ≡ 16 * l.k + 16 = omega arith in
    elim c.if-all_regular.branch [
      | then-all_regular w ↦ rw (z, w.buf-is, w.n-is) (
        omega arith,
        part_copied _ _ l.buf l.n (16 * l.k) l.invariant.1 (omega arith) (16 * l.k + 16) (omega arith) (omega arith) _ _ (omega arith)
            (sym c.all_regular.ensures ∙ w.if-all_regular.true) w.put-n.ensures,
      )
      | else-all_regular w ↦ let e = w.reduce_part-n.ensures in rw (z, w.buf-is, w.n-is)
          (omega arith, part_reduced _ _ l.buf l.n (16 * l.k) l.invariant.1 (omega arith) (16 * l.k + 16) (omega arith) (omega arith) _ _ e.value e.buf_after)
    ]

pub returns : goal.returns
returns c =
    let l = c.loop-k in
    let k : c.saturating_sub-blocks.result / 16 ≡ l.k = omega (arith, l.invariant.0, c.loop-k-test.false) in
    let e = c.reduce_part.ensures in
    let t = part_reduced _ _ l.buf l.n (16 * l.k) l.invariant.1 (omega arith) _ (omega arith) (omega arith) _ _ (rw k at e.value) (rw k at e.buf_after) in
    parts_end _ _ _ _ _ t (omega arith)
