-- `message::field_ends` meets its contract. Assumes nothing.
use Prim.Native.Nat.{ℕ, ◌+◌, ◌*◌, ◌/◌, ◌<◌}
use lib.ListN.{length}
use Rattle.message.specs.Ends.{Noted}
use mathlib.Core.Path.{◌≡◌, refl, sym, subst, ◌∙◌}
use mathlib.Core.List.{List}
use native.Mathlib.Omega.{arith}
use Rattle.kinds.specs.Kinds.{most_fields}
use Rattle.message.proofs.Ends.{noted_none, noted_room, noted_over, noted_all}
use Rattle.message.proofs.field_ends.Goals.{After-note_each-n, then-not-is_free, else-not-is_free}
use Rattle.message.proofs.field_ends.Goals as goal

-- what is noted up to a place, which is written in another way
noted_at : {s ends : List ℕ} {n i j : ℕ} → i ≡ j → Noted s ends n i → Noted s ends n j
noted_at {s} {ends} {n} e g =
    subst (λ (k : ℕ). Noted s ends n k) e g

-- there is room for the end of the last field
room : (c : After-note_each-n) → c.note_each-n.result < most_fields
room c =
    noted_room _ _ _ _ c.note_each-n.ensures

pub loop-block-init : goal.loop-block-init
loop-block-init c =
    noted_none c.args.s.now _ refl c.requires

pub note-n-requires : goal.note-n-requires
note-n-requires c =
    (omega arith, omega arith, c.loop-block.invariant)

pub note-n-requires-then-not-is_free : goal.note-n-requires-then-not-is_free
note-n-requires-then-not-is_free c =
    (omega arith, omega arith, c.note-n.ensures)

pub loop-block-preserved : goal.loop-block-preserved
loop-block-preserved c =
    let next : 16 * c.loop-block.block + 16 ≡ 16 * (c.loop-block.block + 1) = omega arith in
    elim c.if-not-is_free.branch [
      | then-not-is_free w ↦ rw (w.ends-is, w.n-is) (noted_at next w.note-n-then-not-is_free.ensures)
      | else-not-is_free w ↦ rw (w.ends-is, w.n-is) (noted_at next
          (noted_over _ _ _ _ c.loop-block.invariant _ (omega arith) (omega arith) (sym c.is_free.ensures ∙ w.if-not-is_free.false)))
    ]

pub note_each-n-requires : goal.note_each-n-requires
note_each-n-requires c =
    let end : 16 * c.loop-block.block ≡ length c.args.s.now / 16 * 16 = omega arith in
    (omega arith, omega arith, noted_at end c.loop-block.invariant)

pub offset_bounds-ends-n : goal.offset_bounds-ends-n
offset_bounds-ends-n c =
    omega (arith, room (goal.at.offset_bounds-ends-n c).After-note_each-n)

pub bounds-ends-n : goal.bounds-ends-n
bounds-ends-n c =
    omega (arith, room (goal.at.bounds-ends-n c).After-note_each-n)

pub returns : goal.returns
returns c =
    noted_all _ _ _ _ c.note_each-n.ensures refl
