-- `code_places::with_byte` meets its contract. Assumes nothing.
use mathlib.Core.Path.{sym, ap, ◌∙◌}
use lib.ListN.{length-set}
use Rattle.text.specs.Words.{cells}
use Rattle.code_places.specs.Codes.{some_codes}
use Rattle.code_places.proofs.Index.{over, held}
use native.Mathlib.Omega.{arith}
use Rattle.code_places.proofs.with_byte.Goals as goal

pub returns-then-from-p : goal.returns-then-from-p
returns-then-from-p c =
    let a = c.args in
    sym (over (cells 2 a.codes.now.codes.list.now) a.codes.now.most a.p.now a.d (omega (arith, c.from.ensures, c.if-from-p.true)))

pub slice_bounds-scratch-end : goal.slice_bounds-scratch-end
slice_bounds-scratch-end c =
    simp length-set (omega (arith, c.put-n.ensures.0, c.put-n.auto.out))

pub returns : goal.returns
returns c =
    let a = c.args in
    c.fit.ensures
    ∙ ap (some_codes (cells 2 a.codes.now.codes.list.now) a.codes.now.most)
    (held a.p.now _ _ c.put-n.result a.d c.put-n.ensures.0 c.put-n.ensures.1 (omega (arith, c.from.ensures, c.if-from-p.false)))
