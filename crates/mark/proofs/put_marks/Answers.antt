use Prim.Native.Nat.{ℕ, ◌+◌, ◌*◌, ◌-◌, ◌≤◌}
use mathlib.Core.Path.{◌≡◌, refl, ap, ◌∙◌}
use mathlib.Core.List.{List}
use native.Mathlib.Omega.{arith}
use lib.ListN.{length, take, drop}
use Rattle.text.proofs.Lent.{lent}
use Rattle.lines.proofs.Writing.{as_long}
use Rattle.lines.proofs.Pieces.{some, first, next, last}
use Rattle.mark.specs.Mark.{marked_of}
use Rattle.mark.proofs.put_marks.Goals as goal

pub loop-at-init : goal.loop-at-init
loop-at-init c = (first marked_of _ _ _ c.skip_white-at.ensures, omega arith, refl)

pub loop-at-preserved : goal.loop-at-preserved
loop-at-preserved c =
    let s = c.args.s.now in
    let l = c.loop-at in
    let e = c.piece_end-e.result in
    let piece : List ℕ = take (e - l.at) (drop l.at s) in
    let bytes = some s l.at e c.loop-at-test.true c.piece_end-e.ensures in
    let room : l.o + 14 * length piece ≤ length l.out =
    omega (arith, bytes.long, bytes.least, bytes.inside, l.invariant.1, l.invariant.2, c.requires) in
    let told = c.put_marked-o.ensures in
    let held = lent l.out (marked_of piece) l.o _ told.value.1 in
    let further : l.o + c.put_marked-o.result ≡ l.o + length (marked_of piece) = ap (λ (k : ℕ). l.o + k) told.value.0 in
    let fits : l.o + length (marked_of piece) ≤ length l.out = omega (arith, further, room, told.upper_bound) in
    let w = c.skip_white-at-in-loop-at.ensures in (
      next marked_of s _ l.invariant.0 e _ c.loop-at-test.true c.piece_end-e.ensures w _ _ further held,
      omega (arith, told.upper_bound, l.invariant.1, bytes.long, w),
      as_long l.out (marked_of piece) _ l.o held fits ∙ l.invariant.2,
    )

pub returns-clause-value : goal.returns-clause-value
returns-clause-value c = last marked_of _ _ c.loop-at.invariant.0 c.loop-at-test.false
