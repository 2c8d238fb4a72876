-- `message::onward` meets its contract. Assumes nothing.
use Prim.Native.Nat.{ℕ, ◌+◌, ◌-◌}
use mathlib.Core.Path.{◌≡◌, ap, ◌∙◌}
use lib.ListN.{drop}
use Rattle.space.specs.Hyphens.{behind_hyphen}
use Rattle.message.proofs.Walk.{hyphen_turn, hyphen_done}
use Rattle.message.proofs.Nth.{hyphen_end}
use native.Mathlib.Omega.{arith}
use Rattle.message.proofs.onward.Goals as goal

pub loop-init : goal.loop-init
loop-init c =
    let z : c.args.n - 0 ≡ c.args.n = omega arith in
    (c.requires, ap (λ (k : ℕ). behind_hyphen k (drop c.args.from.at c.args.s.now)) z)

pub returns-then-c-s : goal.returns-then-c-s
returns-then-c-s c =
    let l = c.loop in
    (l.invariant.0, hyphen_end c.args.s.now _ l.c.at (c.args.n - l.counter) (omega arith) l.invariant.1)

pub next-c-requires : goal.next-c-requires
next-c-requires c =
    c.loop.invariant.0

pub loop-preserved : goal.loop-preserved
loop-preserved c =
    let l = c.loop in
    let n = c.next-c.ensures in
    let z : c.args.n - (l.counter + 1) ≡ c.args.n - l.counter - 1 = omega arith in (
      n.inside,
      ap (λ (k : ℕ). behind_hyphen k (drop c.next-c.result.at c.args.s.now)) z
          ∙ hyphen_turn _ _ l.c.at _ (c.args.n - l.counter) n (omega (arith, c.loop-test.true)) l.invariant.1,
    )

pub returns : goal.returns
returns c =
    let l = c.loop in (l.invariant.0, hyphen_done _ _ (c.args.n - l.counter) (omega (arith, c.loop-test.false)) l.invariant.1)
