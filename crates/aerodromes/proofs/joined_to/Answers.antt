-- `aerodromes::joined_to` meets its contract. Assumes nothing.
use Rattle.aerodromes.proofs.Index.{letters_short}
use Rattle.aerodromes.proofs.joined_to.Goals as goal

pub returns-in_err-aerodrome : goal.returns-in_err-aerodrome
returns-in_err-aerodrome c =
    rw (c.from_residual.ensures, letters_short c.args.w.now c.in_err-aerodrome.ensures.cases)
