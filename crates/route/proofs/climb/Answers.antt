-- `route::climb` meets its contract. Assumes nothing.
use mathlib.Core.Path.{◌≡◌, sym, ap, ◌∙◌}
use Prim.Native.Nat.{◌+◌, ◌<◌}
use mathlib.Core.Bool.{◌&&◌}
use native.Mathlib.Omega.{arith}
use lib.ListN.{length, take, drop}
use Rattle.alphabet.specs.Alphabet.{sign}
use Rattle.text.specs.Words.{leading}
use Rattle.text.proofs.Index.{rest}
use Rattle.shape.specs.Shape.{wides, any}
use Rattle.route.specs.Levels.{climbs}
use Rattle.route.specs.Points.{point_fits}
use Rattle.route.specs.Field15.{pair_fits}
use Rattle.route.proofs.Index.{pair_at}
use Rattle.route.proofs.Signs.{front_signs, signs_pair, oblique_at, no_pair}
use Rattle.route.proofs.climb.Goals.{After-end_of-o, Else-w-o-ne47}
use Rattle.route.proofs.climb.Goals as goal

signs : (c : After-end_of-o) → c.end_of-o.result ≡ leading sign c.args.w.now
signs c =
    omega (arith, c.end_of-o.ensures.value)

inside : (c : After-end_of-o) → (c.end_of-o.result ≡ length c.args.w.now → ⊥) → c.end_of-o.result < length c.args.w.now
inside c n =
    omega (arith, c.end_of-o.ensures.lower_bound.1)

told : (c : Else-w-o-ne47) → pair_fits (wides climbs) c.args.w.now
    ≡ (point_fits 5 (take c.end_of-o.result c.args.w.now) && any (wides climbs) (drop (c.end_of-o.result + 1) c.args.w.now))
told c =
    let signs : c.end_of-o.result ≡ leading sign c.args.w.now = omega (arith, c.end_of-o.ensures.value) in
    let inside : (c.end_of-o.result ≡ length c.args.w.now → ⊥) → c.end_of-o.result < length c.args.w.now =
    λ n. omega (arith, c.end_of-o.ensures.lower_bound.1) in
    let n = c.if-o-w.false in
    let at = oblique_at c.args.w.now c.end_of-o.result signs (inside n) c.if-w-o-ne47.false in
    pair_at c.args.w.now c.end_of-o.result at (wides climbs) n c.end_of-o.ensures.lower_bound.1

pub returns-then-o-w : goal.returns-then-o-w
returns-then-o-w c =
    sym (signs_pair c.args.w.now c.end_of-o.result (signs (goal.at.returns-then-o-w c).After-end_of-o) (wides climbs) c.if-o-w.true)

pub returns-then-w-o-ne47 : goal.returns-then-w-o-ne47
returns-then-w-o-ne47 c =
    sym (no_pair c.args.w.now c.end_of-o.result (signs (goal.at.returns-then-w-o-ne47 c).After-end_of-o) (wides climbs)
    (inside (goal.at.returns-then-w-o-ne47 c).After-end_of-o c.if-o-w.false) c.if-w-o-ne47.true)

pub invariant_of-p : goal.invariant_of-p
invariant_of-p c =
    record { signs = front_signs c.args.w.now c.end_of-o.result (signs (goal.at.invariant_of-p c).After-end_of-o) }

pub returns-then-not-point : goal.returns-then-not-point
returns-then-not-point c =
    rw (told (goal.at.returns-then-not-point c).Else-w-o-ne47, sym c.point.ensures ∙ c.if-not-point.true)

pub returns : goal.returns
returns c =
    rw (told (goal.at.returns c).Else-w-o-ne47, sym c.point.ensures ∙ c.if-not-point.false)
    (c.climbed.ensures ∙ ap (any (wides climbs)) (rest c.args.w.now (c.end_of-o.result + 1)))
