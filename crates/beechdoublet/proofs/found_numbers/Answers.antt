use Prim.Native.Nat.{ℕ}
use mathlib.Core.List.{List, ◌∷◌}
use mathlib.Core.Path.{ap}
use Rattle.handed.proofs.Steps.{state_laid}
use Rattle.beechdoublet.proofs.found_numbers.Goals as goal

pub returns : goal.returns
returns c =
    ap (λ (ns : List ℕ). 13 ∷ ns) (state_laid c.args.s c.state_numbers-n.result c.state_numbers-n.ensures)
