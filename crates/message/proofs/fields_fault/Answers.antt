-- `message::fields_fault` meets its contract. Assumes nothing.
use Prim.Native.Nat.{◌<◌}
use mathlib.Core.Path.{◌≡◌, refl, sym, ◌∙◌}
use native.Mathlib.Omega.{arith}
use lib.ListN.{get_or}
use Rattle.kinds.specs.declared.Form.TheVariants.{Field3}
use Rattle.kinds.specs.Kinds.{form_at, most_fields}
use Rattle.forms.proofs.Faults.{judged_right, judged_wrong}
use Rattle.message.specs.Ends.{EndAt}
use Rattle.message.proofs.Walk.{Walked, walk_starts, walk_found, walk_clear, walk_next}
use Rattle.message.proofs.Ends.{inside_ends, end_known, start_next}
use Rattle.message.proofs.fields_fault.Goals.{At-loop-number}
use Rattle.message.proofs.fields_fault.Goals as goal

walked : (c : At-loop-number) → Walked c.args.t c.args.count c.args.s.now c.loop-number.seen c.loop-number.at c.loop-number.j
walked c =
    c.loop-number.invariant.0 c.args.t c.row-row.ensures c.requires.1

inside : (c : At-loop-number) → c.loop-number.j < most_fields
inside c =
    inside_ends c.args.t c.args.count c.args.s.now c.args.ends.now c.requires.0 c.requires.1 c.loop-number.at c.loop-number.j
    (walked c).even

end-here : (c : At-loop-number) → EndAt c.args.s.now c.loop-number.at (get_or c.args.ends.now c.loop-number.j 0)
end-here c =
    end_known c.args.t c.args.count c.args.s.now c.args.ends.now c.requires.0 c.requires.1 c.loop-number.at c.loop-number.j
    (walked c).even c.loop-number.invariant.1

form-here : (c : At-loop-number) → get_or c.row-row.result c.loop-number.j Field3 ≡ form_at c.args.t c.args.count c.loop-number.j
form-here c =
    (c.row-row.ensures c.loop-number.j).0 (inside c)

pub loop-number-init : goal.loop-number-init
loop-number-init c =
    (λ t r e. walk_starts t c.args.count c.args.s.now _ refl refl e, refl)

pub offset_bounds-ends-j : goal.offset_bounds-ends-j
offset_bounds-ends-j c =
    omega (arith, inside (goal.at.offset_bounds-ends-j c).At-loop-number)

pub bounds-ends-j : goal.bounds-ends-j
bounds-ends-j c =
    omega (arith, inside (goal.at.bounds-ends-j c).At-loop-number)

pub bounds-row-j : goal.bounds-row-j
bounds-row-j c =
    omega (arith, inside (goal.at.bounds-row-j c).At-loop-number)

pub slice_bounds-rank_in-count : goal.slice_bounds-rank_in-count
slice_bounds-rank_in-count c =
    omega (arith, (end-here (goal.at.slice_bounds-rank_in-count c).At-loop-number).end)

pub slice_bounds-rank_in-start : goal.slice_bounds-rank_in-start
slice_bounds-rank_in-start c =
    omega (arith, (end-here (goal.at.slice_bounds-rank_in-start c).At-loop-number).end)

pub slice_bounds-rank_in-end : goal.slice_bounds-rank_in-end
slice_bounds-rank_in-end c =
    omega (arith, (end-here (goal.at.slice_bounds-rank_in-end c).At-loop-number).inside)

pub slice_bounds-fault_of-count : goal.slice_bounds-fault_of-count
slice_bounds-fault_of-count c =
    omega (arith, (end-here (goal.at.slice_bounds-fault_of-count c).At-loop-number).end)

pub slice_bounds-fault_of-start : goal.slice_bounds-fault_of-start
slice_bounds-fault_of-start c =
    omega (arith, (end-here (goal.at.slice_bounds-fault_of-start c).At-loop-number).end)

pub slice_bounds-fault_of-end : goal.slice_bounds-fault_of-end
slice_bounds-fault_of-end c =
    omega (arith, (end-here (goal.at.slice_bounds-fault_of-end c).At-loop-number).inside)

pub returns-in-Err : goal.returns-in-Err
returns-in-Err c =
    let r = c.rank_in-rank.ensures in
    let n = judged_wrong _ _ (sym c.fault_of.ensures ∙ c.in-Err.is) in
    walk_found _ _ _ _ _ _ _ (walked (goal.at.returns-in-Err c).At-loop-number) (end-here (goal.at.returns-in-Err c).At-loop-number).end _ _ _
    (form-here (goal.at.returns-in-Err c).At-loop-number) r.0 r.1 n.0 n.1

pub returns-then-e-s : goal.returns-then-e-s
returns-then-e-s c =
    let r = c.rank_in-rank.ensures in
    let z = judged_right _ (sym c.fault_of.ensures ∙ c.in_default.is) in
    walk_clear _ _ _ _ _ _ _ (walked (goal.at.returns-then-e-s c).At-loop-number) (end-here (goal.at.returns-then-e-s c).At-loop-number).end _ _ _
    (form-here (goal.at.returns-then-e-s c).At-loop-number) r.0 r.1 (sym z) refl (omega arith)

pub overflow_add-at : goal.overflow_add-at
overflow_add-at c =
    omega (arith, (end-here (goal.at.overflow_add-at c).At-loop-number).inside)

pub overflow_add-j : goal.overflow_add-j
overflow_add-j c =
    omega (arith, inside (goal.at.overflow_add-j c).At-loop-number)

pub loop-number-smaller : goal.loop-number-smaller
loop-number-smaller c =
    let e = end-here (goal.at.loop-number-smaller c).At-loop-number in omega (arith, e.end, e.inside)

pub loop-number-preserved : goal.loop-number-preserved
loop-number-preserved c =
    let r = c.rank_in-rank.ensures in
    let z = judged_right _ (sym c.fault_of.ensures ∙ c.in_default.is) in (
      λ t row e. walk_next t _ _ _ _ _ _ (c.loop-number.invariant.0 t row e) (end-here (goal.at.loop-number-preserved c).At-loop-number).end _ _ _
          ((row c.loop-number.j).0 (inside (goal.at.loop-number-preserved c).At-loop-number)) r.0 r.1
          (sym z) refl (omega (arith, (end-here (goal.at.loop-number-preserved c).At-loop-number).inside)),
      start_next c.args.ends.now c.loop-number.j,
    )
