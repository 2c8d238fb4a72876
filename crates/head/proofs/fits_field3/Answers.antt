-- `head::fits_field3` meets its contract. Assumes nothing.
use mathlib.Core.Path.{sym, ◌∙◌}
use Rattle.text.proofs.Index.{rest}
use Rattle.head.specs.Field3.{types}
use Rattle.head.proofs.Laws.{type_not, type_is, no_type_content}
use Rattle.head.proofs.fits_field3.Goals as goal

pub returns-then-s-lt3 : goal.returns-then-s-lt3
returns-then-s-lt3 c =
    sym (no_type_content c.args.s.now c.if-s-lt3.true)

pub returns-then-not-in_cells : goal.returns-then-not-in_cells
unfolding types
returns-then-not-in_cells c =
    sym (type_not _ (sym c.in_cells.ensures ∙ c.if-not-in_cells.true))

pub returns : goal.returns
unfolding types
returns c =
    rw rest at c.are_numbers.ensures ∙ sym (type_is _ (sym c.in_cells.ensures ∙ c.if-not-in_cells.false))
