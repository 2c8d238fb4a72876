use Prim.Native.Nat.{ℕ, ◌+◌, ◌-◌, ◌≤◌}
use mathlib.Core.Path.{◌≡◌, ap, ◌∙◌}
use mathlib.Core.List.{List}
use native.Mathlib.Omega.{arith}
use lib.ListN.{length, take, drop, length-append, length-take, length-drop}
use Rattle.text.specs.Lent.{front}
use Rattle.text.proofs.Index.{rest}
use Rattle.text.proofs.Lent.{lent, length_front}
use Rattle.canonical.proofs.Turns.{halves}
use Rattle.mark.specs.Mark.{shown_line, mark_line}
use Rattle.mark.proofs.Lines.{length_line, length_mark, drawn_is}
use Rattle.mark.proofs.draw_at.Goals as goal

-- behind the line there is room for the mark
module _ (s out mid : List ℕ) (from to n : ℕ) (room : length s + length s + 3 ≤ length out)
    (l : n ≡ length (shown_line (take (to - from) (drop from s)))) (w : mid ≡ front (shown_line (take (to - from) (drop from s))) out) where
  abbrev line : List ℕ
  line = take (to - from) (drop from s)

  long : length (shown_line line) + length s + 2 ≤ length out
  long = omega (arith, length_line line, length-take (to - from) (drop from s), length-drop from s, room)

  as_long : length mid ≡ length out
  as_long = ap length w ∙ length_front (shown_line line) out (omega (arith, long))

  inside : n + length s + 2 ≤ length mid
  inside = omega (arith, l, as_long, long)

pub slice_bounds-put_mark-count : goal.slice_bounds-put_mark-count
slice_bounds-put_mark-count c =
    let p = c.put_line-n in
    omega (arith, inside c.args.s.now _ p.new.out c.line_start-start.result c.line_end-end.result p.result c.requires.1 p.ensures.0 p.ensures.1)

pub slice_bounds-put_mark-start : goal.slice_bounds-put_mark-start
slice_bounds-put_mark-start c =
    let p = c.put_line-n in
    omega (arith, inside c.args.s.now _ p.new.out c.line_start-start.result c.line_end-end.result p.result c.requires.1 p.ensures.0 p.ensures.1)

pub put_mark-requires : goal.put_mark-requires
put_mark-requires c =
    let p = c.put_line-n in
    let k = inside c.args.s.now _ p.new.out c.line_start-start.result c.line_end-end.result p.result c.requires.1 p.ensures.0 p.ensures.1 in
    omega (arith, ap length (rest p.new.out p.result), length-drop p.result p.new.out, k, c.requires.0)

pub overflow_add-result : goal.overflow_add-result
overflow_add-result c =
    let p = c.put_line-n in
    let from = c.line_start-start.result in
    let k = inside c.args.s.now _ p.new.out from c.line_end-end.result p.result c.requires.1 p.ensures.0 p.ensures.1 in
    let a = as_long c.args.s.now _ p.new.out from c.line_end-end.result p.result c.requires.1 p.ensures.0 p.ensures.1 in
    omega (arith, k, a, c.requires.0, c.put_mark.ensures.0, length_mark (c.args.place - from))

pub returns : goal.returns
returns c =
    let p = c.put_line-n in
    let a = c.args in
    let from = c.line_start-start.result in
    let both = drawn_is a.s.now a.place from c.line_end-end.result c.line_start-start.ensures.value c.line_end-end.ensures.value in
    let u = shown_line (take (c.line_end-end.result - from) (drop from a.s.now)) in
    let v = mark_line (a.place - from) in (
      omega (arith, p.ensures.0, c.put_mark.ensures.0, length-append u v, ap length both),
      lent p.new.out v p.result _ c.put_mark.ensures.1 ∙ halves u v a.out.now p.new.out p.result p.ensures.0 p.ensures.1
          ∙ ap (λ (w : List ℕ). front w a.out.now) both,
    )
