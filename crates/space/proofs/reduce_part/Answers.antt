-- `space::reduce_part` meets its contract. Assumes nothing.
use Prim.Native.Nat.{◌+◌}
use mathlib.Core.Path.{sym, ◌∙◌}
use lib.Seq.{length-take-le}
use Rattle.space.proofs.Index.{stands_behind}
use Rattle.space.proofs.Part.{bytes_start, byte_stored, space_stored, white_out, bytes_end}
use native.Mathlib.Omega.{arith}
use Rattle.space.proofs.reduce_part.Goals.{then-is_white+then-stands_for_run, then-is_white+else-stands_for_run, else-is_white}
use Rattle.space.proofs.reduce_part.Goals as goal

pub slice_bounds-last_of-end-2 : goal.slice_bounds-last_of-end-2
slice_bounds-last_of-end-2 c =
    let a = c.args in
    sym (length-take-le a.at a.buf.now (omega arith))

pub loop-i-init : goal.loop-i-init
loop-i-init c =
    bytes_start _ _ _ _ _ _ (omega arith) (omega arith) c.last_of-last.ensures

pub returns : goal.returns
returns c =
    let told = bytes_end _ _ _ _ _ _ _ _ _ c.loop-i.invariant c.loop-i-test.false in record { value = told.0; buf_after = told.1 }

pub loop-i-preserved : goal.loop-i-preserved
loop-i-preserved c =
    let l = c.loop-i in
    let white_here = sym c.is_white.ensures in
    let a = c.args in
    elim c.if-is_white.branch [
      | then-is_white+then-stands_for_run w ↦ rw (w.buf-is, w.last-is, w.n-is)
          (space_stored _ _ _ _ _ l.buf l.last l.n l.i l.invariant c.loop-i-test.true (omega arith) (omega arith)
          (white_here ∙ w.if-is_white.true)
          (stands_behind a.msg.now (l.i + 1) _ _ w.stands_for_run.ensures ∙ w.if-stands_for_run.true))
      | then-is_white+else-stands_for_run w ↦ rw (w.buf-is, w.last-is, w.n-is)
          (white_out _ _ _ _ _ l.buf l.last l.n l.i l.invariant c.loop-i-test.true (omega arith) (white_here ∙ w.if-is_white.true)
          (stands_behind a.msg.now (l.i + 1) _ _ w.stands_for_run.ensures ∙ w.if-stands_for_run.false))
      | else-is_white w ↦ rw (w.buf-is, w.last-is, w.n-is)
          (byte_stored _ _ _ _ _ l.buf l.last l.n l.i l.invariant c.loop-i-test.true (omega arith) (omega arith)
          (white_here ∙ w.if-is_white.false))
    ]
