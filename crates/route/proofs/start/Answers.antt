-- `route::start` meets its contract. Assumes nothing.
use mathlib.Core.Path.{◌≡◌, refl, sym, ◌∙◌}
use mathlib.Core.Bool.{true, cond}
use Rattle.std.proofs.Common.{rules}
use native.Mathlib.Omega.{arith}
use borrow.Author.Tests.{tests}
use Rattle.alphabet.specs.Text.{bytes}
use Rattle.text.specs.Words.{same}
use Rattle.shape.specs.Shape.{wides, any}
use Rattle.route.specs.Levels.{levels}
use Rattle.route.proofs.Fronts.{no_start, start_behind, told_of}
use Rattle.route.proofs.start.Goals as goal

pub returns : goal.returns
returns c =
    let w = c.args.w.now in
    told_of c.behind_speed.result c.behind_speed.ensures c.is_some_and.ensures (λ n q. q ∙ sym (no_start w _ refl n))
    (λ t s p.
    let e : c.is_some_and.result ≡ cond (any (wides levels) t.now) true (same t.now (bytes "VFR")) = search (rules, tests) in
    e ∙ sym (start_behind w _ refl t.now s.1 (λ z. omega (arith, s.0))))
