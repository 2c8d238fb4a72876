-- `board_numbers::put_places` meets its contract. Assumes nothing.
use Prim.Native.Nat.{◌*◌}
use mathlib.Core.Path.{◌≡◌, refl, ap, ◌∙◌}
use native.Mathlib.Omega.{arith}
use lib.ListN.{length, length-drop}
use Rattle.text.proofs.Index.{rest}
use Rattle.racks.specs.Places.{held_at}
use Rattle.board_numbers.proofs.Rows.{row_long, row_written, written_long, all_written}
use Rattle.board_numbers.proofs.put_places.Goals as goal

pub loop-i-init : goal.loop-i-init
loop-i-init c = (c.requires, refl)

pub put_row-requires : goal.put_row-requires
put_row-requires c =
    let l = c.loop-i in
    let ten : length c.held_numbers.result ≡ 10 = ap length c.held_numbers.ensures ∙ row_long (held_at c.args.board.places l.i) in
    omega (arith, ten, ap length (rest l.out (10 * l.i)), length-drop (10 * l.i) l.out, l.invariant.0, c.loop-i-test.true)

pub loop-i-preserved : goal.loop-i-preserved
loop-i-preserved c =
    let a = c.args in
    let l = c.loop-i in
    let t = c.loop-i-test.true in
    let ps = a.board.places in (
      written_long ps a.out.now l.out c.held_numbers.result _ l.i t c.requires l.invariant.1 c.held_numbers.ensures c.put_row.ensures,
      row_written ps a.out.now l.out c.held_numbers.result _ l.i t c.requires l.invariant.1 c.held_numbers.ensures c.put_row.ensures,
    )

pub returns : goal.returns
returns c =
    let l = c.loop-i in
    all_written c.args.board.places c.args.out.now l.out (10 * l.i) l.invariant.1 (omega (arith, c.loop-i-test.false, l.auto.i-end)) c.requires
