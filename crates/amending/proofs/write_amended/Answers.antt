-- `amending::write_amended` meets its contract. Assumes nothing.
use Prim.Native.Nat.{◌-◌}
use lib.ListN.{take, drop, length-set}
use Rattle.amending.specs.Amended.{content_in}
use Rattle.amending.proofs.Writing.{first_field, behind_field, content_to, amending_starts}
use Rattle.amending.proofs.Writing.{Turn, turn_room, turn_fits, turn_next, last_long, last_room, last_written}
use native.Mathlib.Omega.{arith}
use Rattle.amending.proofs.write_amended.Goals.{After-end-e}
use Rattle.amending.proofs.write_amended.Goals as goal

turn : (c : After-end-e) → Turn c.args.role c.args.plan.now c.args.said.now c.args.out.now
    c.loop-k.out c.loop-k.o c.loop-k.k (content_in c.args.role ((take (c.end-e.result - c.loop-k.c.at) (drop c.loop-k.c.at c.args.plan.now))) c.args.said.now
    c.loop-k.k)
turn c =
    let a = c.args in
    record {
      so_far = c.loop-k.invariant.0;
      more = c.loop-k-test.true;
      is_content = content_to a.role a.plan.now a.said.now c.loop-k.invariant.1 c.end-e.ensures.value;
    }

pub loop-k-init : goal.loop-k-init
loop-k-init c =
    let a = c.args in
    (amending_starts a.role a.plan.now a.said.now a.out.now c.requires, first_field _)

pub end-e-requires : goal.end-e-requires
end-e-requires c =
    c.loop-k.invariant.1.inside

pub slice_bounds-put_field-count-in-loop-k : goal.slice_bounds-put_field-count-in-loop-k
slice_bounds-put_field-count-in-loop-k c =
    let l = c.loop-k.invariant.0 in omega (arith, l.turn.inside, l.long, l.enough)

pub slice_bounds-put_field-start-in-loop-k : goal.slice_bounds-put_field-start-in-loop-k
slice_bounds-put_field-start-in-loop-k c =
    let l = c.loop-k.invariant.0 in omega (arith, l.turn.inside, l.long, l.enough)

pub put_field-o-requires : goal.put_field-o-requires
put_field-o-requires c =
    (c.first_entry-first.ensures, turn_fits (turn (goal.at.put_field-o-requires c).After-end-e))

pub overflow_add-o : goal.overflow_add-o
overflow_add-o c =
    omega (arith, turn_room (turn (goal.at.overflow_add-o c).After-end-e), c.put_field-o.ensures.0, c.loop-k.invariant.0.enough, c.well_formed)

pub behind-c-requires : goal.behind-c-requires
behind-c-requires c =
    c.end-e.ensures.lower_bound.1

pub loop-k-preserved : goal.loop-k-preserved
loop-k-preserved c =
    let p = c.put_field-o in
    let next = turn_next (turn (goal.at.loop-k-preserved c).After-end-e) p.ensures.1 c.out-1.given.1 in
    (rw p.ensures.0 next, behind_field _ c.loop-k.invariant.1 c.end-e.ensures.value c.behind-c.ensures)

pub bounds-out-o : goal.bounds-out-o
bounds-out-o c =
    last_room c.loop-k.invariant.0 c.loop-k-test.false

pub overflow_add-result : goal.overflow_add-result
overflow_add-result c =
    let l = c.loop-k.invariant.0 in
    omega (arith, last_long l c.loop-k-test.false, l.enough, c.well_formed)

pub shape_of-out : goal.shape_of-out
shape_of-out c =
    simp length-set c.loop-k.invariant.0.long

pub returns : goal.returns
returns c =
    let l = c.loop-k.invariant.0 in
    (last_long l c.loop-k-test.false, last_written l c.loop-k-test.false)
