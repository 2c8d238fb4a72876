-- `other::words_at` meets its contract. Assumes nothing.
use lib.ListN.{take, drop}
use Prim.Native.Nat.{◌-◌}
use mathlib.Core.Path.{◌≡◌, sym, ap, ◌∙◌}
use mathlib.Core.List.{List}
use Rattle.text.specs.Words.{Word, split, after}
use Rattle.text.proofs.Index.{after_here, after_end}
use Rattle.other.specs.Field18.{group, from_key}
use Rattle.other.proofs.Keys.{found_here, found_none, from_other, from_plain}
use borrow.Author.Rules.{rules}
use Rattle.text.proofs.Iterated.{same_listed}
use native.Mathlib.Omega.{arith}
use Rattle.other.proofs.words_at.Goals.{Joined-o-w, then-o-w+else-eq, else-o-w}
use Rattle.other.proofs.words_at.Goals as goal

-- where the arms meet, the word at `at` is not of the key
passed : (c : Joined-o-w) → from_key c.args.key.now (group (split 32 c.args.s.now)).grouped
    ≡ from_key c.args.key.now (group (after 32 (drop c.find-e.result c.args.s.now))).grouped
passed c =
    let l = c.loop-w in
    let f = c.find-e in
    let g = c.find-o in
    l.invariant.1
    ∙ elim c.if-o-w.branch [
      | then-o-w+else-eq w ↦
          from_other c.args.key.now c.args.s.now l.at f.result f.ensures.value g.result g.ensures.value w.if-o-w.true
          (sym (same_listed (take g.result (take (f.result - l.at) (drop l.at c.args.s.now))) c.args.key.now) ∙ sym w.eq.ensures ∙ w.if-eq.false)
      | else-o-w w ↦ from_plain c.args.key.now c.args.s.now l.at f.result f.ensures.value g.result g.ensures.value w.if-o-w.false
    ]

pub returns-then-eq : goal.returns-then-eq
returns-then-eq c =
    let l = c.loop-w in
    let f = c.find-e in
    let g = c.find-o in
    let e = sym (same_listed (take g.result (take (f.result - l.at) (drop l.at c.args.s.now))) c.args.key.now) ∙ sym c.eq.ensures ∙ c.if-eq.true in
    let there =
    found_here c.args.key.now c.args.s.now l.at f.result f.ensures.value g.result g.ensures.value c.if-o-w.true e f.ensures.lower_bound.1 l.invariant.1 in
    (omega arith, there)

pub returns-then-e-s : goal.returns-then-e-s
returns-then-e-s c =
    let last = after_end 32 c.args.s.now c.find-e.result (omega arith) in
    found_none c.args.key.now c.args.s.now (passed (goal.at.returns-then-e-s c).Joined-o-w
    ∙ ap (λ (ws : List Word). from_key c.args.key.now (group ws).grouped) last)

pub loop-w-preserved : goal.loop-w-preserved
loop-w-preserved c =
    let next = after_here 32 c.args.s.now c.find-e.result (omega arith) in
    (search rules, passed (goal.at.loop-w-preserved c).Joined-o-w ∙ ap (λ (ws : List Word). from_key c.args.key.now (group ws).grouped) next)
