-- `space::is_regular` meets its contract. Assumes nothing.
use Rattle.space.proofs.Stays.{regular_is}
use Rattle.space.proofs.is_regular.Goals as goal

pub returns : goal.returns
returns c =
    regular_is c.args.b c.args.c
