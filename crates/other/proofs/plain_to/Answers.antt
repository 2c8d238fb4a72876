-- `other::plain_to` meets its contract. Assumes nothing.
use mathlib.Core.Path.{sym, ◌∙◌}
use native.Mathlib.Omega.{arith}
use Rattle.other.proofs.Plain.{plain_none, plain_block}
use Rattle.other.proofs.plain_to.Goals as goal

pub loop-i-init : goal.loop-i-init
loop-i-init c =
    let a = c.args in
    (omega arith, omega (arith, c.requires), λ h. absurd (omega arith), plain_none a.s.now a.from)

pub returns-then-not-all_plain : goal.returns-then-not-all_plain
returns-then-not-all_plain c =
    let i = c.loop-i.invariant in record { s_value = i.3; lower_bound = (i.0, i.1, i.2) }

pub loop-i-preserved : goal.loop-i-preserved
loop-i-preserved c =
    let a = c.args in
    let i = c.loop-i.invariant in
    let h = c.loop-i-test.true in
    let f = sym c.all_plain.ensures ∙ c.if-not-all_plain.false in
    (omega arith, omega arith, λ k. omega arith, plain_block a.s.now a.from c.loop-i.i i.0 h i.3 f)

pub returns : goal.returns
returns c =
    let i = c.loop-i.invariant in record { s_value = i.3; lower_bound = (i.0, i.1, i.2) }
