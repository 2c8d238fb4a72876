use Prim.Native.Nat.{ℕ, ◌+◌, ◌≤◌}
use mathlib.Core.Path.{◌≡◌, ap, ◌∙◌}
use mathlib.Core.List.{List, [], ◌∷◌}
use native.Mathlib.Omega.{arith}
use lib.ListN.{length, length-append, length-drop}
use Rattle.text.specs.Lent.{front}
use Rattle.text.proofs.Index.{rest}
use Rattle.text.proofs.Lent.{lent, length_front}
use Rattle.canonical.proofs.Turns.{halves}
use Rattle.mark.specs.Mark.{blanks, mark_line}
use Rattle.mark.proofs.Lines.{length_blanks}
use Rattle.mark.proofs.put_mark.Goals as goal

as_long : (w out mid : List ℕ) → length w + 2 ≤ length out → mid ≡ front w out → length mid ≡ length out
as_long w out mid h e = ap length e ∙ length_front w out (omega (arith, h))

inside : (w out mid : List ℕ) (n : ℕ) → length w + 2 ≤ length out → n ≡ length w → mid ≡ front w out → n + 2 ≤ length mid
inside w out mid n h l e = omega (arith, h, l, as_long w out mid h e)

pub slice_bounds-put-count : goal.slice_bounds-put-count
slice_bounds-put-count c =
    let p = c.put_blanks-n in
    omega (arith, inside _ _ p.new.out p.result (omega (arith, length_blanks c.args.column, c.requires)) p.ensures.0 p.ensures.1)

pub slice_bounds-put-start : goal.slice_bounds-put-start
slice_bounds-put-start c =
    let p = c.put_blanks-n in
    omega (arith, inside _ _ p.new.out p.result (omega (arith, length_blanks c.args.column, c.requires)) p.ensures.0 p.ensures.1)

pub put-requires : goal.put-requires
put-requires c =
    let p = c.put_blanks-n in
    let k = inside _ _ p.new.out p.result (omega (arith, length_blanks c.args.column, c.requires)) p.ensures.0 p.ensures.1 in
    omega (arith, ap length (rest p.new.out p.result), length-drop p.result p.new.out, k)

pub overflow_add-result : goal.overflow_add-result
overflow_add-result c =
    let p = c.put_blanks-n in
    let h : length (blanks c.args.column) + 2 ≤ length c.args.out.now = omega (arith, length_blanks c.args.column, c.requires) in
    let k = inside _ _ p.new.out p.result h p.ensures.0 p.ensures.1 in
    omega (arith, k, as_long _ _ p.new.out h p.ensures.1, c.put.ensures.0)

pub returns : goal.returns
unfolding mark_line
returns c =
    let p = c.put_blanks-n in
    let u = blanks c.args.column in
    let v : List ℕ = 94 ∷ (10 ∷ []) in (
      omega (arith, p.ensures.0, c.put.ensures.0, length-append u v),
      lent p.new.out v p.result _ c.put.ensures.1 ∙ halves u v c.args.out.now p.new.out p.result p.ensures.0 p.ensures.1,
    )
