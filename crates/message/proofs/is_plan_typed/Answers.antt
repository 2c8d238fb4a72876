-- `message::is_plan_typed` meets its contract. Assumes nothing.
use native.Mathlib.Omega.{arith}
use Rattle.message.proofs.Steps.{some_bytes}
use Rattle.message.proofs.is_plan_typed.Goals as goal

pub three_of-requires : goal.three_of-requires
three_of-requires c =
    omega (arith, some_bytes c.args.msg.now c.requires)

pub is_plan_counted-requires : goal.is_plan_counted-requires
is_plan_counted-requires c =
    c.requires

pub returns-in-Ok : goal.returns-in-Ok
returns-in-Ok c =
    rw (← c.three_of.ensures, ← c.type_named.ensures, c.in-Ok.is) c.is_plan_counted.ensures

pub returns-in-Err : goal.returns-in-Err
returns-in-Err c =
    rw (← c.three_of.ensures, ← c.type_named.ensures, c.in-Err.is)
