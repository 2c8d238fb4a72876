-- `codes::cell_behind` meets its contract. Assumes nothing.
use Prim.Native.Nat.{ℕ, ◌+◌, ◌*◌, ◌<◌}
use mathlib.Core.Bool.{false}
use mathlib.Core.Path.{◌≡◌, sym, ap, ◌∙◌}
use mathlib.Core.List.{[], ◌∷◌}
use lib.ListN.{length, drop, get_or}
use native.Mathlib.Omega.{arith}
use Rattle.text.specs.Words.{before, same, rank_from}
use Rattle.codes.proofs.Pairs.{pairs, cells_pairs, further, nowhere, cell_other, cell_half}
use Rattle.codes.proofs.cell_behind.Goals.{else-list-k-via-then-list-k+else-list-k-2, else-list-k-via-else-list-k}
use Rattle.codes.proofs.cell_behind.Goals as goal

pub loop-k-init : goal.loop-k-init
loop-k-init c =
    let a = c.args in
    ap (rank_from (a.f + 1) (before 32 (a.b ∷ (a.c ∷ [])))) (cells_pairs (drop (2 * a.f) a.list.now))

pub returns : goal.returns
returns c =
    let a = c.args in
    sym (c.loop-k.invariant ∙ nowhere (before 32 (a.b ∷ (a.c ∷ []))) c.loop-k.k a.list.now (2 * c.loop-k.k) (omega (arith, c.loop-k-test.false)))

pub loop-k-preserved : goal.loop-k-preserved
loop-k-preserved c =
    let a = c.args in
    let k = c.loop-k.k in
    let s = a.list.now in
    let cell = before 32 (a.b ∷ (a.c ∷ [])) in
    let inside : 2 * k + 1 < length s = omega (arith, c.loop-k-test.true) in
    let e : 2 * k + 2 ≡ 2 * (k + 1) = omega arith in
    let on = λ (o : same cell (before 32 (get_or s (2 * k) 0 ∷ (get_or s (2 * k + 1) 0 ∷ []))) ≡ false).
    c.loop-k.invariant ∙ (further cell k s (2 * k) inside o ∙ ap (λ (i : ℕ). rank_from (k + 1 + 1) cell (pairs (drop i s))) e) in
    elim c.else-list-k.branch [
      | else-list-k-via-then-list-k+else-list-k-2 w ↦ on (cell_half a.b a.c c.requires.1 _ _ w.if-list-k.true w.if-list-k-2.false)
      | else-list-k-via-else-list-k w ↦ on (cell_other a.b a.c c.requires.1 _ _ w.if-list-k.false)
    ]
