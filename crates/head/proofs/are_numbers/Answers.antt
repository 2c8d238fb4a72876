-- `head::are_numbers` meets its contract. Assumes nothing.
use Prim.Native.Nat.{◌+◌, ◌≤◌, ◌<◌}
use mathlib.Core.Path.{sym, ◌∙◌}
use lib.ListN.{length}
use Rattle.text.proofs.Index.{rest}
use Rattle.head.specs.Runs.{lead}
use mathlib.Core.Bool.{false}
use Rattle.head.proofs.Laws.{numbers_none, numbers_one, numbers_two}
use native.Mathlib.Omega.{arith}
use Rattle.head.proofs.are_numbers.Goals as goal

pub returns-then-w-eq0 : goal.returns-then-w-eq0
returns-then-w-eq0 c =
    sym (numbers_none c.args.w.now c.if-w-eq0.true)

pub returns-then-w-e-le3 : goal.returns-then-w-e-le3
returns-then-w-e-le3 c =
    let h : length c.args.w.now ≤ lead false c.args.w.now + 3 = omega (arith, c.run-e.ensures.0) in
    c.is_number.ensures ∙ sym (numbers_one c.args.w.now c.if-w-eq0.false h)

pub returns-then-not-is_number : goal.returns-then-not-is_number
returns-then-not-is_number c =
    let h : lead false c.args.w.now + 3 < length c.args.w.now = omega (arith, c.run-e.ensures.0) in
    rw (numbers_two c.args.w.now h, ← c.run-e.ensures.0, sym c.is_number-2.ensures ∙ c.if-not-is_number.true)

pub returns : goal.returns
returns c =
    let h : lead false c.args.w.now + 3 < length c.args.w.now = omega (arith, c.run-e.ensures.0) in
    rw (numbers_two c.args.w.now h, ← c.run-e.ensures.0, sym c.is_number-2.ensures ∙ c.if-not-is_number.false)
    (rw rest at c.is_number-3.ensures)
