-- `message::write_fields` meets its contract. Assumes nothing.
use Prim.Native.Nat.{◌<◌, ◌≤◌}
use mathlib.Core.Path.{refl, ◌∙◌}
use lib.ListN.{length, get_or, set, length-set}
use Rattle.text.specs.Words.{split}
use Rattle.kinds.specs.declared.MessageType.{MessageType}
use Rattle.kinds.specs.declared.Form.TheVariants.{Field3}
use Rattle.kinds.specs.Kinds.{forms_of, most_fields}
use Rattle.message.specs.Ends.{EndAt}
use Rattle.message.proofs.Writing.{Given, Writing, some_spelled, front_opened, writing_starts}
use Rattle.message.proofs.Writing.{Turn, turn_room, turn_content, turn_fits, next_room, turn_next, last_long, last_room, last_written}
use Rattle.message.proofs.Ends.{inside_ends, end_known, start_next}
use native.Mathlib.Omega.{arith}
use Rattle.message.proofs.write_fields.Goals.{At-loop-row, Else-e-s, Then-e-s}
use Rattle.message.proofs.write_fields.Goals as goal

given : (c : At-loop-row) → Given c.args.t c.args.count c.row-row.result c.args.s.now ((set c.args.out.now 0 40))
given c =
    record {
      is_row = c.row-row.ensures;
      room = omega (arith, c.requires.1, length-set c.args.out.now 0 40);
      even = c.requires.2;
      clear = c.requires.3;
    }

writing : (c : At-loop-row) → Writing c.args.t c.args.count c.args.s.now ((set c.args.out.now 0 40)) c.loop-row.out c.loop-row.o c.loop-row.at c.loop-row.j
writing c =
    c.loop-row.invariant.0 c.args.t (given c)

within : (c : At-loop-row) → c.loop-row.o ≤ length c.loop-row.out
within c =
    omega (arith, (writing c).within, (writing c).room, (writing c).long)

inside : (c : At-loop-row) → c.loop-row.j < most_fields
inside c =
    inside_ends c.args.t c.args.count c.args.s.now c.args.ends.now c.requires.0 c.requires.2 c.loop-row.at c.loop-row.j
    (writing c).even

end-here : (c : At-loop-row) → EndAt c.args.s.now c.loop-row.at (get_or c.args.ends.now c.loop-row.j 0)
end-here c =
    end_known c.args.t c.args.count c.args.s.now c.args.ends.now c.requires.0 c.requires.2 c.loop-row.at c.loop-row.j
    (writing c).even c.loop-row.invariant.1

turn-of : (c : At-loop-row) → (t : MessageType) → Given t c.args.count c.row-row.result c.args.s.now ((set c.args.out.now 0 40))
    → Turn t c.args.count c.args.s.now ((set c.args.out.now 0 40)) c.loop-row.out c.loop-row.o c.loop-row.at c.loop-row.j
    (get_or c.args.ends.now c.loop-row.j 0)
    (get_or c.row-row.result c.loop-row.j Field3)
turn-of c t g =
    record { so_far = c.loop-row.invariant.0 t g; end = (end-here c).end; is_form = (g.is_row c.loop-row.j).0 (inside c) }

turn : (c : At-loop-row) → Turn c.args.t c.args.count c.args.s.now ((set c.args.out.now 0 40)) c.loop-row.out c.loop-row.o c.loop-row.at c.loop-row.j
    (get_or c.args.ends.now c.loop-row.j 0) (get_or c.row-row.result c.loop-row.j Field3)
turn c =
    (turn-of c) c.args.t (given c)

no_more : (c : Then-e-s) → length c.args.s.now ≤ get_or c.args.ends.now c.loop-row.j 0
no_more c =
    omega arith

more : (c : Else-e-s) → get_or c.args.ends.now c.loop-row.j 0 < length c.args.s.now
more c =
    let given : Given c.args.t c.args.count c.row-row.result c.args.s.now ((set c.args.out.now 0 40)) = record {
      is_row = c.row-row.ensures;
      room = omega (arith, c.requires.1, length-set c.args.out.now 0 40);
      even = c.requires.2;
      clear = c.requires.3;
    } in
    let writing : Writing c.args.t c.args.count c.args.s.now ((set c.args.out.now 0 40)) c.loop-row.out c.loop-row.o c.loop-row.at c.loop-row.j =
    c.loop-row.invariant.0 c.args.t given in
    let end-here : EndAt c.args.s.now c.loop-row.at (get_or c.args.ends.now c.loop-row.j 0) =
    end_known c.args.t c.args.count c.args.s.now c.args.ends.now c.requires.0 c.requires.2 c.loop-row.at c.loop-row.j
    writing.even c.loop-row.invariant.1 in
    omega (arith, end-here.inside)

pub bounds-out-0 : goal.bounds-out-0
bounds-out-0 c =
    omega (arith, c.requires.1, some_spelled 40 (forms_of c.args.t c.args.count) (split 45 c.args.s.now))

pub loop-row-init : goal.loop-row-init
loop-row-init c =
    (λ t g. writing_starts t c.args.count _ c.args.s.now c.args.out.now g, refl)

pub offset_bounds-ends-j : goal.offset_bounds-ends-j
offset_bounds-ends-j c =
    omega (arith, inside (goal.at.offset_bounds-ends-j c).At-loop-row)

pub bounds-ends-j : goal.bounds-ends-j
bounds-ends-j c =
    omega (arith, inside (goal.at.bounds-ends-j c).At-loop-row)

pub bounds-row-j : goal.bounds-row-j
bounds-row-j c =
    omega (arith, inside (goal.at.bounds-row-j c).At-loop-row)

pub slice_bounds-write_fitting-count : goal.slice_bounds-write_fitting-count
slice_bounds-write_fitting-count c =
    omega (arith, (end-here (goal.at.slice_bounds-write_fitting-count c).At-loop-row).end)

pub slice_bounds-write_fitting-start : goal.slice_bounds-write_fitting-start
slice_bounds-write_fitting-start c =
    omega (arith, (end-here (goal.at.slice_bounds-write_fitting-start c).At-loop-row).end)

pub slice_bounds-write_fitting-end : goal.slice_bounds-write_fitting-end
slice_bounds-write_fitting-end c =
    omega (arith, (end-here (goal.at.slice_bounds-write_fitting-end c).At-loop-row).inside)

pub slice_bounds-write_fitting-count-in-loop-row : goal.slice_bounds-write_fitting-count-in-loop-row
slice_bounds-write_fitting-count-in-loop-row c =
    omega (arith, within (goal.at.slice_bounds-write_fitting-count-in-loop-row c).At-loop-row)

pub slice_bounds-write_fitting-start-in-loop-row : goal.slice_bounds-write_fitting-start-in-loop-row
slice_bounds-write_fitting-start-in-loop-row c =
    omega (arith, within (goal.at.slice_bounds-write_fitting-start-in-loop-row c).At-loop-row)

pub write_fitting-o-requires : goal.write_fitting-o-requires
write_fitting-o-requires c =
    (turn_content (turn (goal.at.write_fitting-o-requires c).At-loop-row), turn_fits (turn (goal.at.write_fitting-o-requires c).At-loop-row))

pub overflow_add-o : goal.overflow_add-o
overflow_add-o c =
    omega (arith, turn_room (turn (goal.at.overflow_add-o c).At-loop-row), c.write_fitting-o.ensures.0, c.requires.1, c.well_formed)

pub bounds-out-o : goal.bounds-out-o
bounds-out-o c =
    last_room (turn (goal.at.bounds-out-o c).At-loop-row) c.write_fitting-o.ensures.0 c.write_fitting-o.ensures.1 (no_more (goal.at.bounds-out-o c).Then-e-s)
    c.out-1.given.1

pub overflow_add-result : goal.overflow_add-result
overflow_add-result c =
    let l = last_long (turn (goal.at.overflow_add-result c).At-loop-row) c.write_fitting-o.ensures.0 c.write_fitting-o.ensures.1
    (no_more (goal.at.overflow_add-result c).Then-e-s) c.out-1.given.1 in
    omega (arith, l, c.requires.1, c.well_formed)

pub shape_of-out-then-e-s : goal.shape_of-out-then-e-s
shape_of-out-then-e-s c =
    simp length-set (c.out-1.given.1 ∙ (writing (goal.at.shape_of-out-then-e-s c).At-loop-row).long ∙ length-set c.args.out.now 0 40)

pub returns-then-e-s : goal.returns-then-e-s
returns-then-e-s c =
    let p = c.write_fitting-o.ensures in
    let a = c.args in (
      last_long (turn (goal.at.returns-then-e-s c).At-loop-row) p.0 p.1 (no_more (goal.at.returns-then-e-s c).Then-e-s) c.out-1.given.1,
      last_written (turn (goal.at.returns-then-e-s c).At-loop-row) p.0 p.1 (no_more (goal.at.returns-then-e-s c).Then-e-s) c.out-1.given.1
          ∙ front_opened _ a.out.now (some_spelled 40 (forms_of a.t a.count) (split 45 a.s.now)),
    )

pub bounds-out-o-in-loop-row : goal.bounds-out-o-in-loop-row
bounds-out-o-in-loop-row c =
    next_room (turn (goal.at.bounds-out-o-in-loop-row c).At-loop-row) c.write_fitting-o.ensures.0 c.write_fitting-o.ensures.1
    (more (goal.at.bounds-out-o-in-loop-row c).Else-e-s) c.out-1.given.1

pub overflow_add-o-in-loop-row : goal.overflow_add-o-in-loop-row
overflow_add-o-in-loop-row c =
    let l = next_room (turn (goal.at.overflow_add-o-in-loop-row c).At-loop-row) c.write_fitting-o.ensures.0 c.write_fitting-o.ensures.1
    (more (goal.at.overflow_add-o-in-loop-row c).Else-e-s) c.out-1.given.1 in
    omega (arith, l, c.out-1.given.1, (writing (goal.at.overflow_add-o-in-loop-row c).At-loop-row).long, length-set c.args.out.now 0 40, c.well_formed)

pub overflow_add-at : goal.overflow_add-at
overflow_add-at c =
    omega (arith, more (goal.at.overflow_add-at c).Else-e-s)

pub overflow_add-j : goal.overflow_add-j
overflow_add-j c =
    omega (arith, inside (goal.at.overflow_add-j c).At-loop-row)

pub loop-row-smaller : goal.loop-row-smaller
loop-row-smaller c =
    omega (arith, (end-here (goal.at.loop-row-smaller c).At-loop-row).end, more (goal.at.loop-row-smaller c).Else-e-s)

pub loop-row-preserved : goal.loop-row-preserved
loop-row-preserved c =
    let p = c.write_fitting-o.ensures in (
      λ t g. turn_next (turn-of (goal.at.loop-row-preserved c).At-loop-row t g) p.0 p.1 (more (goal.at.loop-row-preserved c).Else-e-s) c.out-1.given.1,
      start_next c.args.ends.now c.loop-row.j,
    )
