-- `route::climbed` meets its contract. Assumes nothing.
use Prim.Native.Nat.{◌<◌}
use mathlib.Core.Path.{◌≡◌, refl, sym, ◌∙◌}
use mathlib.Core.Bool.{true, false, cond}
use Rattle.std.proofs.Common.{rules}
use Rattle.std.specs.Prelude.{MatchOption}
use native.Mathlib.Omega.{arith}
use lib.ListN.{drop}
use borrow.Author.Tests.{tests}
use Rattle.alphabet.specs.Text.{bytes}
use Rattle.text.specs.Words.{same}
use Rattle.shape.specs.Shape.{wides, any}
use Rattle.route.specs.Levels.{levels}
use Rattle.route.specs.Fronts.{speed_end, level_end}
use Rattle.route.proofs.Fronts.{no_climb, climb_none, climb_behind, told_of}
use Rattle.route.proofs.climbed.Goals as goal

pub returns : goal.returns
returns c =
    let w = c.args.w.now in
    told_of c.behind_speed.result c.behind_speed.ensures c.and_then.ensures
    (λ n q. let e : c.is_some_and.result ≡ false = rw q at c.is_some_and.ensures in e ∙ sym (no_climb w _ refl n))
    (λ t s p.
    let z : speed_end w ≡ 0 → ⊥ = λ e. omega (arith, s.0) in
    let m : MatchOption c.and_then.result (level_end t.now ≡ 0) (λ u. (0 < level_end t.now) × (u.now ≡ drop (level_end t.now) t.now)) = search rules in
    told_of c.and_then.result m c.is_some_and.ensures (λ n q. q ∙ sym (climb_none w _ refl t.now s.1 z _ refl n))
    (λ u k p.
    let e : c.is_some_and.result ≡ cond (any (wides levels) u.now) true (same u.now (bytes "PLUS")) = search (rules, tests) in
    e ∙ sym (climb_behind w _ refl t.now s.1 z _ refl u.now k.1 (λ y. omega (arith, k.0)))))
