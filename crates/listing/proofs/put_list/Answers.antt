use Prim.Native.Nat.{ℕ, ◌+◌, ◌-◌, ◌≤◌}
use mathlib.Core.Path.{◌≡◌, refl, ap, ◌∙◌}
use mathlib.Core.List.{List}
use native.Mathlib.Omega.{arith}
use lib.ListN.{length, take, drop, length-drop}
use Rattle.text.proofs.Index.{rest}
use Rattle.text.proofs.Lent.{lent}
use Rattle.lines.specs.Lines.{line_of}
use Rattle.lines.proofs.Steps.{whole_told, nine_times}
use Rattle.lines.proofs.Writing.{as_long}
use Rattle.lines.proofs.Pieces.{some, first, next, last}
use Rattle.listing.proofs.put_list.Goals as goal

pub loop-at-init : goal.loop-at-init
loop-at-init c = (first line_of _ _ _ c.skip_white-at.ensures, omega arith, refl)

pub loop-at-preserved : goal.loop-at-preserved
loop-at-preserved c =
    let s = c.args.s.now in
    let l = c.loop-at in
    let e = c.piece_end-e.result in
    let piece : List ℕ = take (e - l.at) (drop l.at s) in
    let part : List ℕ = take (length l.out - l.o) (drop l.o l.out) in
    let bytes = some s l.at e c.loop-at-test.true c.piece_end-e.ensures in
    let room : l.o + (length piece + 12) ≤ length l.out =
    omega (arith, bytes.long, bytes.least, bytes.inside, l.invariant.1, l.invariant.2, c.requires) in
    let told = whole_told piece part _ _ c.line-o.ensures (omega (arith, room, ap length (rest l.out l.o), length-drop l.o l.out)) in
    let held = lent l.out (line_of piece) l.o _ told.written in
    let further : l.o + c.line-o.result.length ≡ l.o + length (line_of piece) = ap (λ (k : ℕ). l.o + k) told.length_is in
    let few = nine_times piece part _ _ c.line-o.ensures told bytes.least in
    let fits : l.o + length (line_of piece) ≤ length l.out = omega (arith, further, room, c.line-o.ensures.short) in
    let w = c.skip_white-at-in-loop-at.ensures in (
      next line_of s _ l.invariant.0 e _ c.loop-at-test.true c.piece_end-e.ensures w _ _ further held,
      omega (arith, few, l.invariant.1, bytes.long, w),
      as_long l.out (line_of piece) _ l.o held fits ∙ l.invariant.2,
    )

pub returns-clause-value : goal.returns-clause-value
returns-clause-value c = last line_of _ _ c.loop-at.invariant.0 c.loop-at-test.false
