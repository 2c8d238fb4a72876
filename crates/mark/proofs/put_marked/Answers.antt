use Prim.Native.Nat.{ℕ, ◌+◌, ◌*◌, ◌≤◌}
use mathlib.Core.Path.{sym, ap, ◌∙◌}
use mathlib.Core.List.{List}
use native.Mathlib.Omega.{arith}
use lib.ListN.{length, length-append, length-drop}
use Rattle.text.proofs.Index.{rest}
use Rattle.text.proofs.Lent.{lent, length_front}
use Rattle.canonical.proofs.Turns.{put_same, halves}
use Rattle.lines.specs.declared.Told.{Told}
use Rattle.lines.specs.Lines.{Tells, line_of as listing_line}
use Rattle.lines.proofs.Steps.{Whole, whole_told, nine_times}
use Rattle.mark.specs.Mark.{drawn}
use Rattle.mark.proofs.Lines.{drawn_short, accepted_marked, refused_marked}
use Rattle.mark.proofs.put_marked.Goals as goal

-- the line is whole, and behind it there is room for the two others
module _ (m out mid : List ℕ) (r : Told) (some : 1 ≤ length m) (wide : 14 * length m ≤ length out) (t : Tells m out r mid) where
  told : Whole m out r mid
  told = whole_told m out r mid t (omega (arith, some, wide))

  few : r.length ≤ 9 * length m
  few = nine_times m out r mid t told some

  room : r.length + (length m + length m + 3) ≤ length mid
  room =
      let l = ap length told.written ∙ length_front (listing_line m) out (omega (arith, told.length_is, few, wide)) in
      omega (arith, l, few, some, wide)

pub draw-requires : goal.draw-requires
draw-requires c =
    let p = c.line-told in
    let k = room c.args.piece.now c.args.out.now p.new.out p.result c.requires.0 c.requires.1 p.ensures in
    omega (arith, ap length (rest p.new.out p.result.length), length-drop p.result.length p.new.out, k)

pub overflow_add-result : goal.overflow_add-result
overflow_add-result c =
    let p = c.line-told in
    let f = few c.args.piece.now c.args.out.now p.new.out p.result c.requires.0 c.requires.1 p.ensures in
    omega (arith, f, c.draw.ensures.0, drawn_short c.args.piece.now c.in-Err.refusal.place, c.requires.0, c.requires.1)

pub returns-in-Ok-clause-value : goal.returns-in-Ok-clause-value
returns-in-Ok-clause-value c =
    let p = c.line-told in
    let m = c.args.piece.now in
    let t = told m c.args.out.now p.new.out p.result c.requires.0 c.requires.1 p.ensures in
    put_same c.args.out.now (accepted_marked m _ _ (sym t.answer_is ∙ c.in-Ok.is)) (t.length_is, t.written)

pub returns-in-Err-clause-value : goal.returns-in-Err-clause-value
returns-in-Err-clause-value c =
    let p = c.line-told in
    let m = c.args.piece.now in
    let out = c.args.out.now in
    let place = c.in-Err.refusal.place in
    let t = told m out p.new.out p.result c.requires.0 c.requires.1 p.ensures in
    let v = drawn m place in
    put_same out (refused_marked m _ _ place (sym t.answer_is ∙ c.in-Err.is)) (
      omega (arith, t.length_is, c.draw.ensures.0, length-append (listing_line m) v),
      lent p.new.out v p.result.length _ c.draw.ensures.1 ∙ halves (listing_line m) v out p.new.out p.result.length t.length_is t.written,
    )

pub returns-in-Err-clause-upper_bound : goal.returns-in-Err-clause-upper_bound
returns-in-Err-clause-upper_bound c =
    let p = c.line-told in
    let f = few c.args.piece.now c.args.out.now p.new.out p.result c.requires.0 c.requires.1 p.ensures in
    omega (arith, f, c.draw.ensures.0, drawn_short c.args.piece.now c.in-Err.refusal.place, c.requires.0)
