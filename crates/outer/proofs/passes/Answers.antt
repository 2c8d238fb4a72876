-- `outer::passes` meets its contract. Assumes nothing.
use Prim.Native.Nat.{ℕ, ◌-◌}
use mathlib.Core.Path.{◌≡◌, ap}
use native.Mathlib.Omega.{arith}
use lib.ListN.{length, take, drop}
use Rattle.space.specs.Fields.{Framed}
use Rattle.outer.proofs.Walk.{not_passed, walked}
use Rattle.outer.proofs.passes.Goals as goal

pub returns-then-msg-gt-MOST_BYTES : goal.returns-then-msg-gt-MOST_BYTES
returns-then-msg-gt-MOST_BYTES c =
    not_passed _ (λ p. omega (arith, p.short, c.if-msg-gt-MOST_BYTES.true))

pub returns-then-msg-lt2 : goal.returns-then-msg-lt2
returns-then-msg-lt2 c =
    not_passed _ (λ p. omega (arith, p.framed.long, c.if-msg-lt2.true))

pub returns-then-msg-ne40 : goal.returns-then-msg-ne40
returns-then-msg-ne40 c =
    not_passed _ (λ p. c.if-msg-ne40.true p.framed.first)

pub returns-then-msg-last-ne41 : goal.returns-then-msg-last-ne41
returns-then-msg-last-ne41 c =
    not_passed _ (λ p. c.if-msg-last-ne41.true p.framed.last)

pub returns : goal.returns
returns c =
    let m = c.args.msg.now in
    let i : length m - 1 - 1 ≡ length m - 2 = omega arith in
    let f : Framed m = record { long = c.if-msg-lt2.false; first = c.if-msg-ne40.false; last = c.if-msg-last-ne41.false } in
    walked m c.if-msg-gt-MOST_BYTES.false f _ c.inner_bytes-n.result (ap (λ (k : ℕ). take k (drop 1 m)) i) c.inner_bytes-n.ensures.0
