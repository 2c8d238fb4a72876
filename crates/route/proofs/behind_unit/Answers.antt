-- `route::behind_unit` meets its contract. Assumes nothing.
use mathlib.Core.Path.{◌≡◌, sym, ap, ◌∙◌}
use Prim.Native.Nat.{ℕ, ◌+◌, ◌-◌}
use native.Mathlib.Omega.{arith}
use lib.ListN.{take, drop}
use Rattle.alphabet.specs.Alphabet.{digit}
use Rattle.text.specs.Words.{all}
use Rattle.text.proofs.Index.{rest}
use Rattle.route.proofs.Fronts.{unit_short, unit_other, unit_here}
use Rattle.route.proofs.behind_unit.Goals.{After-all_of}
use Rattle.route.proofs.behind_unit.Goals as goal

digits-there : (c : After-all_of) → all digit (take c.args.n (drop 1 c.args.w.now)) ≡ c.all_of.result
digits-there c =
    let n : c.args.n ≡ c.args.n + 1 - 1 = omega arith in
    ap (λ (k : ℕ). all digit (take k (drop 1 c.args.w.now))) n ∙ sym c.all_of.ensures

pub returns-then-w-n : goal.returns-then-w-n
returns-then-w-n c =
    unit_short _ _ c.if-w-n.true

pub returns-then-not-all_of : goal.returns-then-not-all_of
returns-then-not-all_of c =
    let e = digits-there (goal.at.returns-then-not-all_of c).After-all_of ∙ c.if-not-all_of.true in
    unit_other c.args.n c.args.w.now c.requires c.if-w-n.false e

pub returns : goal.returns
returns c =
    let e = digits-there (goal.at.returns c).After-all_of ∙ c.if-not-all_of.false in
    let n = unit_here c.args.n c.args.w.now c.requires c.if-w-n.false e in
    (omega (arith, n), rest c.args.w.now (c.args.n + 1) ∙ ap (λ (k : ℕ). drop k c.args.w.now) (sym n))
