-- `text::rank_behind` meets its contract. Assumes nothing.
use Prim.Native.Nat.{ℕ, ◌+◌, ◌-◌, ◌*◌, ◌<◌, ◌≤◌}
use mathlib.Core.Path.{◌≡◌, sym, ap, ◌∙◌}
use mathlib.Core.Bool.{false}
use lib.ListN.{length}
use Rattle.text.specs.Words.{rank_from}
use Rattle.text.proofs.Index.{cells_from, drop_cells, next_place, cell_inside, cells_over, cell_found, cell_next, no_cell, held, not_begun}
use borrow.Author.Rules.{rules}
use native.Mathlib.Omega.{arith}
use Rattle.text.proofs.Tests.{ranked_so}
use Rattle.text.proofs.rank_behind.Goals.{In-loop-k, else-list-at-via-then-list-at+else-in_cell, else-list-at-via-else-list-at}
use Rattle.text.proofs.rank_behind.Goals as goal

inside : (c : In-loop-k) → (c.loop-k.k < length c.args.list.now) × (c.loop-k.k * c.args.width + c.args.width ≤ length c.args.list.now)
inside c =
    cell_inside c.loop-k.k c.args.width c.args.list.now c.requires c.loop-k-test.true

pub loop-k-init : goal.loop-k-init
loop-k-init c =
    let a = c.args in
    ap (rank_from (a.last + 1) a.w.now) (drop_cells a.last a.width a.list.now c.requires)

pub overflow_mul-at : goal.overflow_mul-at
overflow_mul-at c =
    let h = (inside (goal.at.overflow_mul-at c).In-loop-k).1 in search rules

pub overflow_add-at : goal.overflow_add-at
overflow_add-at c =
    let h = (inside (goal.at.overflow_add-at c).In-loop-k).1 in search rules

pub slice_bounds-in_cell-count : goal.slice_bounds-in_cell-count
slice_bounds-in_cell-count c =
    let h = (inside (goal.at.slice_bounds-in_cell-count c).In-loop-k).1 in search rules

pub slice_bounds-in_cell-start : goal.slice_bounds-in_cell-start
slice_bounds-in_cell-start c =
    let h = (inside (goal.at.slice_bounds-in_cell-start c).In-loop-k).1 in search rules

pub slice_bounds-in_cell-end : goal.slice_bounds-in_cell-end
slice_bounds-in_cell-end c =
    let h = (inside (goal.at.slice_bounds-in_cell-end c).In-loop-k).1 in search rules

pub overflow_add-result : goal.overflow_add-result
overflow_add-result c =
    let h = (inside (goal.at.overflow_add-result c).In-loop-k).0 in search rules

pub returns-then-in_cell : goal.returns-then-in_cell
returns-then-in_cell c =
    let a = c.args in
    let h = inside (goal.at.returns-then-in_cell c).In-loop-k in
    let n : a.width ≤ length c.args.list.now - c.loop-k.k * a.width = omega (arith, h.1) in
    let e = sym c.in_cell.ensures ∙ c.if-in_cell.true in
    ranked_so _ _
    (omega arith, c.loop-k.invariant ∙ cell_found (c.loop-k.k + 1) a.width (c.loop-k.k * a.width) a.w.now c.args.list.now (omega (arith, h.0)) n e)

pub loop-k-preserved : goal.loop-k-preserved
loop-k-preserved c =
    let a = c.args in
    let k = c.loop-k.k in
    let h = inside (goal.at.loop-k-preserved c).In-loop-k in
    let n : a.width ≤ length a.list.now - k * a.width = omega (arith, h.1) in
    let e : held (k + 1) a.width (k * a.width) a.w.now a.list.now ≡ false
    = elim c.else-list-at.branch [
      | else-list-at-via-then-list-at+else-in_cell w ↦ sym w.in_cell.ensures ∙ w.if-in_cell.false
      | else-list-at-via-else-list-at w ↦
          not_begun (k + 1) a.width (k * a.width) a.w.now a.list.now c.requires n (λ q. w.if-list-at.false (q ∙ sym c.first_in_cell-first.ensures))
    ] in
    c.loop-k.invariant
    ∙ cell_next (k + 1) a.width (k * a.width) a.w.now a.list.now (omega (arith, h.0)) n e
    ∙ ap (λ (i : ℕ). rank_from (k + 1 + 1) a.w.now (cells_from (k + 1 + 1) a.width i a.list.now)) (sym (next_place k a.width))

pub returns : goal.returns
returns c =
    let a = c.args in
    let none = cells_over c.loop-k.k a.width a.list.now c.requires c.loop-k-test.false in
    ranked_so _ _ (c.loop-k.invariant ∙ no_cell (c.loop-k.k + 1) a.width (c.loop-k.k * a.width) a.w.now a.list.now none)
