-- `aerodromes::elapsed` meets its contract. Assumes nothing.
use mathlib.Core.Path.{sym, ◌∙◌}
use native.Mathlib.Omega.{arith}
use Rattle.aerodromes.proofs.Index.{elapsed_short}
use Rattle.aerodromes.proofs.elapsed.Goals as goal

pub returns-in_err-get : goal.returns-in_err-get
returns-in_err-get c =
    c.from_residual.ensures ∙ sym (elapsed_short c.args.s.now (omega (arith, c.in_err-get.ensures.lookup)))
