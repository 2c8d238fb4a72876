-- `dates::put_two` meets its contract. Assumes nothing.
use Prim.Native.Nat.{◌≤◌}
use native.Mathlib.Omega.{arith}
use lib.ListN.{length, length-append}
use Rattle.dates.proofs.Writing.{inside, fits_behind, put_behind}
use Rattle.dates.proofs.put_two.Goals.{After-put-n}
use Rattle.dates.proofs.put_two.Goals as goal

in_room : (c : After-put-n) → c.put-n.result ≤ length c.put-n.new.out
in_room c =
    let a = c.args in omega (arith, inside a.first.now a.second.now a.out.now c.put-n.ensures c.requires)

pub put-n-requires : goal.put-n-requires
put-n-requires c =
    omega (arith, length-append c.args.first.now c.args.second.now, c.requires)

pub slice_bounds-put-count : goal.slice_bounds-put-count
slice_bounds-put-count c =
    in_room (goal.at.slice_bounds-put-count c).After-put-n

pub slice_bounds-put-start : goal.slice_bounds-put-start
slice_bounds-put-start c =
    in_room (goal.at.slice_bounds-put-start c).After-put-n

pub put-requires : goal.put-requires
put-requires c =
    let a = c.args in
    fits_behind a.first.now a.second.now a.out.now c.put-n.ensures c.requires

pub returns : goal.returns
returns c =
    let a = c.args in
    put_behind a.first.now a.second.now a.out.now c.put-n.ensures c.requires _ _ c.put.ensures
