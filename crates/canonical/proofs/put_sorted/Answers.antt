-- `canonical::put_sorted` meets its contract. Assumes nothing.
use Prim.Native.Nat.{ℕ, ◌+◌}
use mathlib.Core.List.{List, [], ◌∷◌}
use mathlib.Core.Path.{sym, ap, ◌∙◌}
use native.Mathlib.Omega.{arith}
use lib.ListN.{get_or, drop, length-set}
use Rattle.text.proofs.Lent.{store, due, room, onward, all_written}
use Rattle.text.proofs.Index.{drop_end}
use Rattle.canonical.specs.Canonical.{sorted}
use Rattle.canonical.proofs.Steps.{sorted_take, sorted_skip}
use Rattle.canonical.proofs.put_sorted.Goals.{then-one_of, else-one_of}
use Rattle.canonical.proofs.put_sorted.Goals as goal

pub loop-b-preserved : goal.loop-b-preserved
loop-b-preserved c =
    let set = c.args.set.now in
    let l = c.loop-b in
    let b = get_or set l.b-index 0 ∷ [] in
    let behind = sorted (drop (l.b-index + 1) set) c.args.w.now in
    elim c.if-one_of.branch [
      | then-one_of w ↦
          let t = due l.invariant.1 (sorted_take set c.args.w.now l.b-index c.loop-b-test.true (sym c.one_of.ensures ∙ w.if-one_of.true)) in
          let f = room b behind t in
          rw (w.out-is, w.o-is) (
            simp length-set l.invariant.0,
            onward b behind t _ (store l.out l.o (get_or set l.b-index 0) (omega (arith, f, l.invariant.0, c.requires))),
          )
      | else-one_of w ↦
          let t = sorted_skip set c.args.w.now l.b-index c.loop-b-test.true (sym c.one_of.ensures ∙ w.if-one_of.false) in
          rw (w.out-is, w.o-is) (l.invariant.0, due l.invariant.1 t)
    ]

pub returns : goal.returns
returns c =
    let a = c.args in
    let l = c.loop-b in
    all_written (due l.invariant.1 (ap (λ (s : List ℕ). sorted s a.w.now) (drop_end a.set.now l.b-index c.loop-b-test.false)))
