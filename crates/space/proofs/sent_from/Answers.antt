-- `space::sent_from` meets its contract. Assumes nothing.
use mathlib.Core.Path.{sym, ap, ◌∙◌}
use Prim.Native.Nat.{ℕ, ◌+◌, ◌-◌}
use mathlib.Core.Bool.{Bool}
use lib.ListN.{drop}
use Rattle.space.specs.Places.{sent_from, in_run}
use Rattle.space.proofs.Places.{count_stop, count_next, count_skip, count_end, count_start}
use borrow.Author.Rules.{rules}
use native.Mathlib.Omega.{arith}
use Prim.Native.Nat.{◌+◌}
use Rattle.space.proofs.sent_from.Goals.{then-counts+else-left-eq0, else-counts}
use Rattle.space.proofs.sent_from.Goals as goal

pub loop-i-init : goal.loop-i-init
loop-i-init c =
    let a = c.args in
    (search rules, search rules, ap (λ (r : Bool). a.at + sent_from r a.n (drop a.at a.msg.now)) (sym (count_start a.msg.now a.at)))

pub returns-then-left-eq0 : goal.returns-then-left-eq0
returns-then-left-eq0 c =
    let a = c.args in
    let i = c.loop-i.i in
    omega (
      arith,
      ap (λ (k : ℕ). sent_from (in_run a.msg.now a.at i) k (drop i a.msg.now)) c.if-left-eq0.true,
      count_stop a.msg.now a.at i (omega arith) (omega arith) (sym c.counts.ensures ∙ c.if-counts.true),
    )

pub returns : goal.returns
returns c =
    let a = c.args in
    let i = c.loop-i.i in
    omega (arith, count_end (in_run a.msg.now a.at i) c.loop-i.left a.msg.now i (omega arith))

pub loop-i-preserved : goal.loop-i-preserved
loop-i-preserved c =
    let a = c.args in
    let i = c.loop-i.i in
    let left = c.loop-i.left in
    let counted = sym c.counts.ensures in
    let behind = λ (k : ℕ). sent_from (in_run a.msg.now a.at (i + 1)) k (drop (i + 1) a.msg.now) in
    elim c.if-counts.branch [
      | then-counts+else-left-eq0 w ↦ omega (
        arith,
        count_next a.msg.now a.at i (omega arith) (omega arith) left (left - 1) (omega arith) (counted ∙ w.if-counts.true),
        ap behind w.left-is,
      )
      | else-counts w ↦ omega (arith, count_skip a.msg.now a.at i (omega arith) (omega arith) left (counted ∙ w.if-counts.false), ap behind w.left-is)
    ]
