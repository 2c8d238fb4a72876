-- `route::joined` meets its contract. Assumes nothing.
use mathlib.Core.Path.{◌≡◌, sym, ap, ◌∙◌}
use Prim.Native.Nat.{◌+◌, ◌≤◌}
use mathlib.Core.Bool.{true, cond, ◌&&◌}
use native.Mathlib.Omega.{arith}
use lib.ListN.{length, take, drop}
use Rattle.alphabet.specs.Text.{bytes}
use Rattle.text.specs.Words.{up_to, same}
use Rattle.text.proofs.Index.{rest}
use Rattle.shape.specs.Shape.{wides, any}
use Rattle.route.specs.Levels.{changes, climbs}
use Rattle.route.specs.Points.{point_fits}
use Rattle.route.specs.Field15.{pair_fits, element_fits}
use Rattle.route.proofs.Index.{element_at, pair_at, climbs_rest}
use Rattle.route.proofs.Signs.{front_signs, oblique_at, no_element}
use Rattle.route.proofs.joined.Goals.{Else-eq, Else-w-o-ne47}
use Rattle.route.proofs.joined.Goals as goal

inside : (c : Else-w-o-ne47) → c.args.o ≤ length c.args.w.now
inside c =
    omega (arith, c.requires.0)

short : (c : Else-w-o-ne47) → c.args.o ≡ length c.args.w.now → ⊥
short c e =
    omega (arith, c.requires.0)

oblique : (c : Else-w-o-ne47) → c.args.o ≡ 0 + up_to 47 c.args.w.now
oblique c =
    oblique_at c.args.w.now c.args.o c.requires.1 c.requires.0 c.if-w-o-ne47.false

told : (c : Else-w-o-ne47) → element_fits true c.args.w.now ≡ cond (same (take c.args.o c.args.w.now) (bytes "C"))
    (pair_fits (wides climbs) (drop (c.args.o + 1) c.args.w.now)) (pair_fits (wides changes) c.args.w.now)
told c =
    element_at c.args.w.now c.args.o (oblique c) true (short c) (inside c)

-- where it is another
changing : (c : Else-eq) → element_fits true c.args.w.now
    ≡ (point_fits 5 (take c.args.o c.args.w.now) && any (wides changes) (drop (c.args.o + 1) c.args.w.now))
changing c =
    let oblique : c.args.o ≡ 0 + up_to 47 c.args.w.now = oblique_at c.args.w.now c.args.o c.requires.1 c.requires.0 c.if-w-o-ne47.false in
    let short : c.args.o ≡ length c.args.w.now → ⊥ = λ e. omega (arith, c.requires.0) in
    let inside : c.args.o ≤ length c.args.w.now = omega (arith, c.requires.0) in
    let told : element_fits true c.args.w.now ≡ cond (same (take c.args.o c.args.w.now) (bytes "C"))
    (pair_fits (wides climbs) (drop (c.args.o + 1) c.args.w.now)) (pair_fits (wides changes) c.args.w.now) =
    element_at c.args.w.now c.args.o oblique true short inside in
    rw (told, sym c.eq.ensures ∙ c.if-eq.false) (pair_at c.args.w.now c.args.o oblique (wides changes) short inside)

pub returns-then-w-o-ne47 : goal.returns-then-w-o-ne47
returns-then-w-o-ne47 c =
    sym (no_element c.args.w.now c.args.o c.requires.1 true c.requires.0 c.if-w-o-ne47.true)

pub returns-then-eq : goal.returns-then-eq
returns-then-eq c =
    rw (told (goal.at.returns-then-eq c).Else-w-o-ne47, sym c.eq.ensures ∙ c.if-eq.true)
    (c.climb.ensures ∙ climbs_rest c.args.w.now (c.args.o + 1))

pub invariant_of-point : goal.invariant_of-point
invariant_of-point c =
    record { signs = front_signs c.args.w.now c.args.o c.requires.1 }

pub returns-then-not-point : goal.returns-then-not-point
returns-then-not-point c =
    rw (changing (goal.at.returns-then-not-point c).Else-eq, sym c.point.ensures ∙ c.if-not-point.true)

pub returns : goal.returns
returns c =
    rw (changing (goal.at.returns c).Else-eq, sym c.point.ensures ∙ c.if-not-point.false)
    (c.changed.ensures ∙ ap (any (wides changes)) (rest c.args.w.now (c.args.o + 1)))
