-- `forms::rank_of_entry` meets its contract. Assumes nothing.
use lib.Seq.{length-take-le}
use mathlib.Core.Path.{sym, ◌∙◌}
use Rattle.text.proofs.Tests.{ranked_is, ranked_or}
use Rattle.forms.specs.Field22.{labels}
use Rattle.forms.proofs.Index.{rank_known}
use Rattle.forms.proofs.rank_of_entry.Goals as goal

pub slice_bounds-rank_in_cells-end : goal.slice_bounds-rank_in_cells-end
slice_bounds-rank_in_cells-end c =
    sym (length-take-le _ _ c.find-o.ensures.lower_bound.1)

pub returns : goal.returns
unfolding labels
returns c =
    rank_known _ _ c.find-o.ensures.value _ (c.unwrap_or.ensures ∙ ranked_or _ _ (ranked_is _ _ c.rank_in_cells.ensures))
