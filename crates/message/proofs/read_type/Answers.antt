-- `message::read_type` meets its contract. Assumes nothing.
use native.Mathlib.Omega.{arith}
use mathlib.Core.Path.{refl}
use Rattle.std.proofs.lemmas.Result.{err_from_is_err_and}
use Rattle.message.proofs.Steps.{some_bytes}
use Rattle.message.proofs.read_type.Goals as goal

pub three_of-requires : goal.three_of-requires
three_of-requires c =
    omega (arith, some_bytes c.args.msg.now c.requires)

pub read_count-requires : goal.read_count-requires
read_count-requires c =
    c.requires

pub returns-in_err-t : goal.returns-in_err-t
returns-in_err-t c =
    let p = err_from_is_err_and c.from_residual.result c.from_residual.ensures.1 in
    rw (p.1, p.2, ← c.three_of.ensures, ← c.type_named.ensures, c.in_err-t.was) (refl, refl)

pub returns : goal.returns
returns c =
    rw (← c.three_of.ensures, ← c.type_named.ensures, c.in_ok-t.was) c.read_count.ensures
