-- `text::in_cell` meets its contract. Assumes nothing.
use Prim.Native.Nat.{ℕ}
use Rattle.std.proofs.Common.{rules, ◌≡◌, length, get_or}
use Rattle.std.proofs.lemmas.Iterator.{YieldsList-from_slice, YieldsList-from_zip}
use Rattle.std.proofs.lemmas.Iterator.Search.{all_from_yields_List}
use Rattle.std.specs.List.{list_all, zip}
use mathlib.Core.Path.{sym, ap, ◌∙◌}
use native.Mathlib.Omega.{arith}
use lib.Dec.{eqb}
use borrow.Author.Tests.{tests, le-leb, lt-leb}
use Rattle.text.proofs.Index.{fills, cell_holds}
use Rattle.text.proofs.in_cell.Goals as goal

pub returns-then-cell-w : goal.returns-then-cell-w
returns-then-cell-w c = rw (cell_holds c.args.w.now c.args.cell.now, lt-leb (length c.args.w.now) (length c.args.cell.now) c.if-cell-w.true)

pub returns-then-all : goal.returns-then-all
returns-then-all c =
    let w = c.args.w.now in
    let cell = c.args.cell.now in
    let a : c.all.result ≡ list_all fills (zip w cell) =
    all_from_yields_List fills c.all.new.self _ _ c.all.ensures.ran
    (YieldsList-from_zip (YieldsList-from_slice w (search rules)) (YieldsList-from_slice cell (search rules)))
    (λ x b q k. search (rules, tests)) in
    let behind : c.unwrap_or.result ≡ get_or cell (length w) 32 = search rules in
    rw (cell_holds w cell, le-leb (length w) (length cell) (omega (arith, c.if-cell-w.false)), sym a ∙ c.if-all.true) (ap (λ (b : ℕ). eqb b 32) behind)

pub returns-else-all : goal.returns-else-all
returns-else-all c =
    let w = c.args.w.now in
    let cell = c.args.cell.now in
    let a : c.all.result ≡ list_all fills (zip w cell) =
    all_from_yields_List fills c.all.new.self _ _ c.all.ensures.ran
    (YieldsList-from_zip (YieldsList-from_slice w (search rules)) (YieldsList-from_slice cell (search rules)))
    (λ x b q k. search (rules, tests)) in
    rw (cell_holds w cell, le-leb (length w) (length cell) (omega (arith, c.if-cell-w.false)), sym a ∙ c.if-all.false) c.if-all.false
