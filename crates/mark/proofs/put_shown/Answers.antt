use Prim.Native.Nat.{◌+◌, ◌≤◌, ◌<◌}
use mathlib.Core.Path.{◌≡◌, ap, sym, ◌∙◌}
use mathlib.Core.List.{[], ◌∷◌}
use native.Mathlib.Omega.{arith}
use lib.ListN.{length, get_or, drop, set}
use Rattle.text.proofs.Lent.{store, next_out, whole_out}
use Rattle.mark.specs.Mark.{shown_as, shown_all}
use Rattle.mark.proofs.Lines.{length_shown, shown_next}
use Rattle.mark.proofs.put_shown.Goals as goal

pub loop-i-preserved : goal.loop-i-preserved
loop-i-preserved c =
    let l = c.loop-i in
    let a = c.args in
    let line = a.line.now in
    let h : l.i < length line = c.loop-i-test.true in
    let x = get_or line l.i 0 in
    let w : l.i ≤ length (shown_all line) = omega (arith, h, length_shown line) in
    let stored = ap (λ y. set l.out l.i y) c.shown.ensures ∙ store l.out l.i (shown_as x) (omega (arith, h, l.auto.out, c.requires)) in
    let left = drop (l.i + 1) (shown_all line) in
    let next = next_out (shown_all line) a.out.now l.out l.i l.invariant w (shown_as x ∷ []) left (shown_next line l.i h) in
    stored ∙ next

pub returns : goal.returns
returns c =
    let l = c.loop-i in
    let line = c.args.line.now in
    let e : l.i ≡ length (shown_all line) = omega (arith, length_shown line, l.auto.i-end, c.loop-i-test.false) in
    (sym (length_shown line), whole_out _ _ _ _ l.invariant e)
