-- `route::level` meets its contract. Assumes nothing.
use mathlib.Core.Path.{◌≡◌, refl, sym, ◌∙◌}
use Rattle.std.proofs.Common.{rules}
use borrow.Author.Tests.{tests}
use lib.Dec.{eqb}
use lib.ListN.{length}
use Rattle.route.proofs.Fronts.{no_level, level_all, told_of}
use Rattle.route.proofs.level.Goals as goal

pub returns : goal.returns
returns c =
    let w = c.args.w.now in
    told_of c.behind_level.result c.behind_level.ensures c.is_some_and.ensures (λ n q. q ∙ sym (no_level w _ refl n))
    (λ t s p. let e : c.is_some_and.result ≡ eqb (length t.now) 0 = search (rules, tests) in e ∙ sym (level_all w t.now s.0 s.1))
