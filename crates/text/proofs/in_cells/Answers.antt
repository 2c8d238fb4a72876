-- `text::in_cells` meets its contract. Assumes nothing.
use mathlib.Core.Path.{◌∙◌}
use native.Mathlib.Omega.{arith}
use Rattle.text.specs.Words.{cells}
use Rattle.text.proofs.Tests.{ranked-elem, ranked_is}
use Rattle.text.proofs.in_cells.Goals as goal

pub returns : goal.returns
returns c =
    let a = c.args in
    c.is_some.ensures ∙ ranked-elem 1 a.w.now (cells a.width a.list.now) (omega arith) _ (ranked_is _ _ c.rank_in_cells.ensures)
