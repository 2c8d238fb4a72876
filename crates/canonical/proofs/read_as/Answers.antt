-- `canonical::read_as` meets its contract. Assumes nothing.
use Prim.Native.Nat.{◌-◌, ◌<◌}
use mathlib.Core.Bool.{true}
use mathlib.Core.Path.{◌≡◌, sym, ap, ◌∙◌}
use native.Mathlib.Omega.{arith}
use lib.Dec.{eqb}
use lib.ListN.{length, take, drop, get_or}
use Rattle.text.proofs.Index.{rest}
use Rattle.supplement.specs.Field19.{by_letter}
use Rattle.supplement.specs.Walk.{first, further, step}
use Rattle.supplement.proofs.Steps.{second_inside, step_plain}
use Rattle.canonical.proofs.Fitting.{key_first}
use Rattle.canonical.proofs.read_as.Goals.{Else-not-has_key, Then-not-has_key}
use Rattle.canonical.proofs.read_as.Goals as goal

-- a further word
plain : (c : Then-not-has_key) → let a = c.args in step a.stage a.w.now ≡ further a.stage a.w.now
plain c =
    let a = c.args in
    step_plain a.stage a.w.now (sym c.has_key.ensures ∙ c.if-not-has_key.true)

second : (c : Else-not-has_key) → eqb (get_or c.args.w.now 1 0) 47 ≡ true
second c =
    sym c.has_key.ensures ∙ c.if-not-has_key.false

inside : (c : Else-not-has_key) → 1 < length c.args.w.now
inside c =
    second_inside c.args.w.now (second c)

opening : (c : Else-not-has_key) → step c.args.stage c.args.w.now ≡ first (by_letter (get_or c.args.w.now 0 0))
    (take (length c.args.w.now - 2) (drop 2 c.args.w.now))
opening c =
    key_first c.args.stage c.args.w.now c.requires (second c) ∙ sym (ap (first (by_letter (get_or c.args.w.now 0 0))) (rest c.args.w.now 2))

pub followed_as-requires : goal.followed_as-requires
followed_as-requires c =
    λ q. c.requires (plain (goal.at.followed_as-requires c).Then-not-has_key ∙ q)

pub returns-then-not-has_key : goal.returns-then-not-has_key
returns-then-not-has_key c =
    c.followed_as.ensures ∙ sym (plain (goal.at.returns-then-not-has_key c).Then-not-has_key)

pub bounds-w-0 : goal.bounds-w-0
bounds-w-0 c =
    omega (arith, inside (goal.at.bounds-w-0 c).Else-not-has_key)

pub opened_as-requires : goal.opened_as-requires
opened_as-requires c =
    λ q. c.requires (opening (goal.at.opened_as-requires c).Else-not-has_key ∙ q)

pub returns : goal.returns
returns c =
    c.opened_as.ensures ∙ sym (opening (goal.at.returns c).Else-not-has_key)
