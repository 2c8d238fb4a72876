-- `route::changed` meets its contract. Assumes nothing.
use mathlib.Core.Path.{◌≡◌, refl, sym, ◌∙◌}
use Rattle.std.proofs.Common.{rules}
use native.Mathlib.Omega.{arith}
use borrow.Author.Tests.{tests}
use Rattle.shape.specs.Shape.{wides, any}
use Rattle.route.specs.Levels.{levels}
use Rattle.route.proofs.Fronts.{no_change, change_behind, told_of}
use Rattle.route.proofs.changed.Goals as goal

pub returns : goal.returns
returns c =
    let w = c.args.w.now in
    told_of c.behind_speed.result c.behind_speed.ensures c.is_some_and.ensures (λ n q. q ∙ sym (no_change w _ refl n))
    (λ t s p.
    let e : c.is_some_and.result ≡ any (wides levels) t.now = search (rules, tests) in
    e ∙ sym (change_behind w _ refl t.now s.1 (λ z. omega (arith, s.0))))
