-- `other_places::more_place` meets its contract. Assumes nothing.
use mathlib.Core.Path.{sym, ap, ◌∙◌}
use borrow.Author.Tests.{lt-ltb, le-ltb}
use Rattle.other.specs.Rules.{single}
use Rattle.other_places.specs.Places.{rule_place}
use native.Mathlib.Omega.{arith}
use Rattle.other_places.proofs.more_place.Goals as goal

pub returns-then-k-eq0 : goal.returns-then-k-eq0
returns-then-k-eq0 c =
    sym (rw (le-ltb 0 c.args.k (omega arith)))

pub returns-then-is_single : goal.returns-then-is_single
returns-then-is_single c =
    let k = c.args.k in
    let e = sym (ap single c.rule-rule.ensures) ∙ sym c.is_single.ensures ∙ c.if-is_single.true in
    sym (rw (lt-ltb 0 k (omega arith), e))

pub returns : goal.returns
returns c =
    let a = c.args in
    let e = sym (ap single c.rule-rule.ensures) ∙ sym c.is_single.ensures ∙ c.if-is_single.false in
    let placed = c.rule_place.ensures ∙ ap (λ r. rule_place r a.w.now) c.rule-rule.ensures in
    sym (rw (lt-ltb 0 a.k (omega arith), e) (sym placed))
