-- `route::element` meets its contract. Assumes nothing.
use mathlib.Core.Path.{◌≡◌, sym, ◌∙◌}
use Prim.Native.Nat.{◌<◌}
use native.Mathlib.Omega.{arith}
use lib.ListN.{length}
use Rattle.alphabet.specs.Alphabet.{sign}
use Rattle.text.specs.Words.{leading}
use Rattle.route.proofs.Signs.{signs_plain, whole_signs, anywhere}
use Rattle.route.proofs.element.Goals.{After-end_of-o}
use Rattle.route.proofs.element.Goals as goal

signs : (c : After-end_of-o) → c.end_of-o.result ≡ leading sign c.args.w.now
signs c =
    omega (arith, c.end_of-o.ensures.value)

inside : (c : After-end_of-o) → (c.end_of-o.result ≡ length c.args.w.now → ⊥) → c.end_of-o.result < length c.args.w.now
inside c n =
    omega (arith, c.end_of-o.ensures.lower_bound.1)

pub invariant_of-word : goal.invariant_of-word
invariant_of-word c =
    record { signs = whole_signs c.args.w.now c.end_of-o.result (signs (goal.at.invariant_of-word c).After-end_of-o) c.if-o-w.true }

pub returns-then-o-w : goal.returns-then-o-w
returns-then-o-w c =
    c.word.ensures
    ∙ sym (signs_plain _ c.args.w.now (whole_signs c.args.w.now c.end_of-o.result (signs (goal.at.returns-then-o-w c).After-end_of-o) c.if-o-w.true))

pub joined-requires : goal.joined-requires
joined-requires c =
    (inside (goal.at.joined-requires c).After-end_of-o c.if-o-w.false, signs (goal.at.joined-requires c).After-end_of-o)

pub returns : goal.returns
returns c =
    c.joined.ensures ∙ sym (anywhere c.args.w.now c.end_of-o.result (signs (goal.at.returns c).After-end_of-o)
    (inside (goal.at.returns c).After-end_of-o c.if-o-w.false) _)
