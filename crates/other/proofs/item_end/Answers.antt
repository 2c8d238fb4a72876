-- `other::item_end` meets its contract. Assumes nothing.
use lib.ListN.{take, drop}
use Prim.Native.Nat.{ℕ, ◌+◌, ◌-◌}
use mathlib.Core.Path.{sym, ap, ◌∙◌}
use mathlib.Core.List.{List, ◌++◌, append-nil}
use Rattle.other.proofs.Keys.{space_at, end_first, end_last, end_item, end_word}
use borrow.Author.Rules.{rules}
use Rattle.other.proofs.item_end.Goals as goal

pub loop-e-init : goal.loop-e-init
loop-e-init c =
    let a = c.args in
    let f = c.find-e in
    (search rules, search rules, space_at a.s.now a.at f.result f.ensures.value, end_first a.s.now a.at f.result f.ensures.value)

pub returns-then-find-w : goal.returns-then-find-w
returns-then-find-w c =
    let s = c.args.s.now in let at = c.args.at in let l = c.loop-e in let f = c.find-next in let none =
    end_item s l.e f.result c.loop-e-test.true f.ensures.value c.find.result c.find.ensures.value c.if-find-w.true in
    record { s_value = sym (append-nil _) ∙ ap (λ (t : List ℕ). take (l.e - at) (drop at s) ++ t) (sym none) ∙ l.invariant.3; lower_bound = search rules }

pub loop-e-preserved : goal.loop-e-preserved
loop-e-preserved c =
    let s = c.args.s.now in
    let l = c.loop-e in
    let f = c.find-next in
    let g = c.find in
    let t = c.loop-e-test.true in
    let word = end_word s l.e f.result t f.ensures.value g.result g.ensures.value c.args.at l.invariant.0 (l.invariant.2 t) c.if-find-w.false in
    (search rules, search rules, space_at s (l.e + 1) f.result f.ensures.value, sym word ∙ l.invariant.3)

pub returns : goal.returns
returns c =
    let s = c.args.s.now in let at = c.args.at in let l = c.loop-e in let none = end_last s l.e c.loop-e-test.false in
    record { s_value = sym (append-nil _) ∙ ap (λ (t : List ℕ). take (l.e - at) (drop at s) ++ t) (sym none) ∙ l.invariant.3; lower_bound = search rules }
