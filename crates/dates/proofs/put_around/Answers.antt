-- `dates::put_around` meets its contract. Assumes nothing.
use Prim.Native.Nat.{◌+◌, ◌-◌, ◌≤◌}
use mathlib.Core.List.{◌++◌}
use native.Mathlib.Omega.{arith}
use lib.ListN.{length, take, drop, length-append}
use Rattle.dates.specs.Dates.{Puts}
use Rattle.dates.proofs.Writing.{inside, fits_behind, put_behind}
use Rattle.dates.proofs.put_around.Goals.{After-put, After-put_two-n, Start}
use Rattle.dates.proofs.put_around.Goals as goal

-- the room for it with the date
so_far : (c : Start) → length (((c.args.head.now ++ c.args.lead.now)) ++ c.args.date.now) ≤ length c.args.out.now
so_far c =
    omega (arith, length-append (((c.args.head.now ++ c.args.lead.now)) ++ c.args.date.now) ((c.args.gap.now ++ c.args.tail.now)), c.requires)

in_room : (c : After-put_two-n) → c.put_two-n.result + length c.args.date.now ≤ length c.put_two-n.new.out
in_room c =
    let so_far : length (((c.args.head.now ++ c.args.lead.now)) ++ c.args.date.now) ≤ length c.args.out.now =
    omega (arith, length-append (((c.args.head.now ++ c.args.lead.now)) ++ c.args.date.now) ((c.args.gap.now ++ c.args.tail.now)), c.requires) in
    inside (c.args.head.now ++ c.args.lead.now) c.args.date.now c.args.out.now c.put_two-n.ensures so_far

dated-out : (c : After-put) → Puts ((c.args.head.now ++ c.args.lead.now) ++ c.args.date.now) (c.put_two-n.result + c.put.result) c.args.out.now
    (take c.put_two-n.result c.put_two-n.new.out
    ++ (c.put.new.out ++ drop (length c.put_two-n.new.out - c.put_two-n.result) (drop c.put_two-n.result c.put_two-n.new.out)))
dated-out c =
    let so_far : length (((c.args.head.now ++ c.args.lead.now)) ++ c.args.date.now) ≤ length c.args.out.now =
    omega (arith, length-append (((c.args.head.now ++ c.args.lead.now)) ++ c.args.date.now) ((c.args.gap.now ++ c.args.tail.now)), c.requires) in
    put_behind (c.args.head.now ++ c.args.lead.now) c.args.date.now c.args.out.now c.put_two-n.ensures so_far _ _ c.put.ensures

in-room-2 : (c : After-put) → c.put_two-n.result + c.put.result + length (c.args.gap.now ++ c.args.tail.now)
    ≤ length (take c.put_two-n.result c.put_two-n.new.out
    ++ (c.put.new.out ++ drop (length c.put_two-n.new.out - c.put_two-n.result) (drop c.put_two-n.result c.put_two-n.new.out)))
in-room-2 c =
    inside ((c.args.head.now ++ c.args.lead.now) ++ c.args.date.now) (c.args.gap.now ++ c.args.tail.now) c.args.out.now (dated-out c) c.requires

pub put_two-n-requires : goal.put_two-n-requires
put_two-n-requires c =
    omega (arith, length-append (c.args.head.now ++ c.args.lead.now) c.args.date.now, so_far (goal.at.put_two-n-requires c).Start)

pub slice_bounds-put-count : goal.slice_bounds-put-count
slice_bounds-put-count c =
    omega (arith, in_room (goal.at.slice_bounds-put-count c).After-put_two-n)

pub slice_bounds-put-start : goal.slice_bounds-put-start
slice_bounds-put-start c =
    omega (arith, in_room (goal.at.slice_bounds-put-start c).After-put_two-n)

pub put-requires : goal.put-requires
put-requires c =
    fits_behind (c.args.head.now ++ c.args.lead.now) c.args.date.now c.args.out.now c.put_two-n.ensures (so_far (goal.at.put-requires c).Start)

pub overflow_add-m : goal.overflow_add-m
overflow_add-m c =
    omega (arith, (dated-out (goal.at.overflow_add-m c).After-put).0, so_far (goal.at.overflow_add-m c).Start)

pub slice_bounds-put_two-count : goal.slice_bounds-put_two-count
slice_bounds-put_two-count c =
    omega (arith, in-room-2 (goal.at.slice_bounds-put_two-count c).After-put)

pub slice_bounds-put_two-start : goal.slice_bounds-put_two-start
slice_bounds-put_two-start c =
    omega (arith, in-room-2 (goal.at.slice_bounds-put_two-start c).After-put)

pub put_two-requires : goal.put_two-requires
put_two-requires c =
    fits_behind ((c.args.head.now ++ c.args.lead.now) ++ c.args.date.now) (c.args.gap.now ++ c.args.tail.now) c.args.out.now
    (dated-out (goal.at.put_two-requires c).After-put) c.requires

pub overflow_add-result : goal.overflow_add-result
overflow_add-result c =
    omega (
      arith,
      (dated-out (goal.at.overflow_add-result c).After-put).0,
      c.put_two.ensures.0,
      length-append ((c.args.head.now ++ c.args.lead.now)
          ++ c.args.date.now) (c.args.gap.now ++ c.args.tail.now),
      c.requires,
    )

pub returns : goal.returns
returns c =
    put_behind ((c.args.head.now ++ c.args.lead.now) ++ c.args.date.now) (c.args.gap.now ++ c.args.tail.now) c.args.out.now
    (dated-out (goal.at.returns c).After-put) c.requires _ _ c.put_two.ensures
