-- `message::note_each` meets its contract. Assumes nothing.
use Prim.Native.Nat.{ℕ, ◌<◌}
use mathlib.Core.Path.{◌≡◌, subst}
use native.Mathlib.Omega.{arith}
use Rattle.kinds.specs.Kinds.{most_fields}
use Rattle.message.specs.Ends.{Noted}
use Rattle.message.proofs.Ends.{noted_room, noted_more, noted_pass}
use Rattle.message.proofs.note_each.Goals.{Then-s-i-eq45, then-s-i-eq45, else-s-i-eq45}
use Rattle.message.proofs.note_each.Goals as goal

-- at a hyphen there is room to note it
room : (c : Then-s-i-eq45) → c.loop-i.noted < most_fields
room c =
    noted_room _ _ _ _ c.loop-i.invariant.2

pub loop-i-init : goal.loop-i-init
loop-i-init c =
    c.requires

pub offset_bounds-ends-noted : goal.offset_bounds-ends-noted
offset_bounds-ends-noted c =
    omega (arith, room (goal.at.offset_bounds-ends-noted c).Then-s-i-eq45)

pub bounds-ends-noted : goal.bounds-ends-noted
bounds-ends-noted c =
    omega (arith, room (goal.at.bounds-ends-noted c).Then-s-i-eq45)

pub overflow_add-noted : goal.overflow_add-noted
overflow_add-noted c =
    omega (arith, room (goal.at.overflow_add-noted c).Then-s-i-eq45)

pub loop-i-preserved : goal.loop-i-preserved
loop-i-preserved c =
    let l = c.loop-i in
    elim c.if-s-i-eq45.branch [
      | then-s-i-eq45 w ↦ rw (w.ends-is, w.noted-is) (omega arith, l.invariant.1, noted_more _ _ _ _ l.invariant.2 (omega arith) w.if-s-i-eq45.true)
      | else-s-i-eq45 w ↦ rw (w.ends-is, w.noted-is) (omega arith, l.invariant.1, noted_pass _ _ _ _ l.invariant.2 (omega arith) w.if-s-i-eq45.false)
    ]

pub returns : goal.returns
returns c =
    let l = c.loop-i in
    let end : l.i ≡ c.args.to = omega arith in
    subst (λ (k : ℕ). Noted c.args.s.now l.ends l.noted k) end l.invariant.2
