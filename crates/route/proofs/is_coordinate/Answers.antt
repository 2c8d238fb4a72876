-- `route::is_coordinate` meets its contract. Assumes nothing.
use mathlib.Core.Path.{◌≡◌, sym, ap, ◌∙◌}
use Prim.Native.Nat.{◌+◌}
use mathlib.Core.Bool.{◌&&◌}
use native.Mathlib.Omega.{arith}
use lib.ListN.{length, take, drop}
use lib.Seq.{length-take-le}
use Rattle.alphabet.specs.Text.{bytes}
use Rattle.text.proofs.Index.{rest}
use Rattle.shape.specs.Shape.{fits}
use Rattle.route.specs.Fronts.{half_fits, coordinate_shape}
use Rattle.route.proofs.Digits.{no_coordinate, coordinate_by}
use Rattle.route.proofs.is_coordinate.Goals.{Else-w-m}
use Rattle.route.proofs.is_coordinate.Goals as goal

told : (c : Else-w-m) → fits (coordinate_shape c.args.k c.args.j) c.args.w.now
    ≡ (half_fits (bytes "NS") (take (c.args.k + 1) c.args.w.now) && half_fits (bytes "EW") (drop (c.args.k + 1) c.args.w.now))
told c =
    coordinate_by c.args.k c.args.j c.args.w.now (omega (arith, c.if-w-m.false))

pub returns-then-w-m : goal.returns-then-w-m
returns-then-w-m c =
    let n = c.if-w-m.true in
    let a = c.args in
    sym (no_coordinate a.k a.j a.w.now (λ e. n (omega (arith, e))))

pub half-requires : goal.half-requires
half-requires c =
    let l : length (take (c.args.k + 1) c.args.w.now) ≡ c.args.k + 1 = length-take-le _ _ (omega arith) in
    omega arith

pub returns-then-not-half : goal.returns-then-not-half
returns-then-not-half c =
    rw (told (goal.at.returns-then-not-half c).Else-w-m, sym c.half.ensures ∙ c.if-not-half.true)

pub returns : goal.returns
returns c =
    rw (told (goal.at.returns c).Else-w-m, sym c.half.ensures ∙ c.if-not-half.false)
    (c.half-2.ensures ∙ ap (half_fits (bytes "EW")) (rest c.args.w.now (c.args.k + 1)))
