-- `point_places::along_row` meets its contract. Assumes nothing.
use mathlib.Core.Path.{◌∙◌}
use Rattle.std.proofs.Common.{rules}
use Rattle.point_places.specs.Rows.{meets}
use Rattle.point_places.proofs.Index.{row_along}
use Rattle.point_places.proofs.along_row.Goals as goal

pub returns : goal.returns
returns c =
    c.along.ensures meets (λ a b r h. search rules) ∙ row_along c.args.t.now c.args.w.now
