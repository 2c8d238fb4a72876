-- `board_numbers::places_of` meets its contract. Assumes nothing.
use Prim.Native.Nat.{◌+◌, ◌*◌}
use mathlib.Core.Path.{◌≡◌, refl, sym, ap, ◌∙◌}
use mathlib.Core.List.{List, ◌∷◌, ◌++◌}
use native.Mathlib.Omega.{arith}
use lib.ListN.{take, length-set}
use Rattle.text.proofs.Index.{rest}
use Rattle.racks.specs.Places.{Place}
use Rattle.board_numbers.specs.Numbers.{held_of, board_of}
use Rattle.board_numbers.proofs.Rows.{ahead, ahead_first, ahead_next, place_put, all_read}
use Rattle.board_numbers.proofs.places_of.Goals as goal

pub loop-i-init : goal.loop-i-init
loop-i-init c = (refl, ahead_first c.args.numbers.now)

pub loop-i-preserved : goal.loop-i-preserved
loop-i-preserved c =
    let l = c.loop-i in
    let ns = c.args.numbers.now in
    let w : ahead ns l.i ≡ c.held_of.result ∷ ahead ns (l.i + 1)
    = ahead_next ns l.i c.loop-i-test.true
    ∙ ap (λ (p : Place). p ∷ ahead ns (l.i + 1)) (sym (c.held_of.ensures ∙ ap held_of (rest ns (10 * l.i)))) in (
      simp length-set l.invariant.0,
      place_put l.places l.i _ (ahead ns (l.i + 1)) (board_of ns) (omega (arith, l.invariant.0, c.loop-i-test.true))
          (ap (λ (r : List Place). take l.i l.places ++ r) (sym w) ∙ l.invariant.1),
    )

pub returns : goal.returns
returns c =
    let l = c.loop-i in all_read l.places l.i c.args.numbers.now l.invariant.0 (omega (arith, c.loop-i-test.false)) l.invariant.1
