-- `other_places::keys_place` meets its contract. Assumes nothing.
use Prim.Native.Nat.{ℕ, ◌+◌, ◌*◌}
use mathlib.Core.Path.{◌≡◌, sym, ap, ◌∙◌}
use native.Mathlib.Omega.{arith}
use Rattle.text.proofs.Index.{cells_from}
use Rattle.places.specs.Parts.{larger}
use Rattle.entries.specs.Entries.{entries_place}
use Rattle.other.specs.Stated.{stated}
use Rattle.other_places.specs.Places.{later_keys}
use Rattle.other_places.proofs.Index.{keys_next, keys_end}
use Rattle.other_places.proofs.keys_place.Goals as goal

pub loop-i-preserved : goal.loop-i-preserved
loop-i-preserved c =
    let a = c.args in
    let i = c.loop-i.i in
    let keys = a.edition.keys.now in
    let ed = stated a.edition in
    let best = c.max-best.ensures ∙ ap (larger c.loop-i.best) c.cell_place.ensures in
    let z : 4 * (i + 1) ≡ 4 * i + 4 = omega arith in
    c.loop-i.invariant ∙ keys_next ed a.k (i + 1) (4 * i) c.loop-i.best a.w.now keys (omega arith) (omega arith)
    ∙ ap (λ (x : ℕ). larger x (entries_place (later_keys ed a.k (i + 1 + 1) (cells_from (i + 1 + 1) 4 (4 * i + 4) keys)) a.w.now)) (sym best)
    ∙ ap (λ (n : ℕ). larger c.max-best.result (entries_place (later_keys ed a.k (i + 1 + 1) (cells_from (i + 1 + 1) 4 n keys)) a.w.now)) (sym z)

pub returns : goal.returns
returns c =
    let a = c.args in
    let i = c.loop-i.i in
    let keys = a.edition.keys.now in
    sym (c.loop-i.invariant ∙ keys_end (stated a.edition) a.k (i + 1) (4 * i) c.loop-i.best a.w.now keys (omega (arith, c.loop-i-test.false)))
