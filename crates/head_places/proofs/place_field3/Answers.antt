-- `head_places::place_field3` meets its contract. Assumes nothing.
use mathlib.Core.Path.{sym, ◌∙◌}
use lib.Seq.{length-take-le}
use Rattle.places.proofs.Index.{behind_within}
use Rattle.head.specs.Field3.{types}
use Rattle.head_places.specs.Places.{numbers_place}
use Rattle.head_places.proofs.Number3.{numbers_within, type_off, type_short, type_on}
use native.Mathlib.Omega.{arith}
use Rattle.head_places.proofs.place_field3.Goals as goal

pub returns-then-s-lt3 : goal.returns-then-s-lt3
unfolding types
returns-then-s-lt3 c =
    c.any_of.ensures ∙ type_short c.args.s.now c.if-s-lt3.true

pub slice_bounds-in_list-end : goal.slice_bounds-in_list-end
slice_bounds-in_list-end c =
    sym (length-take-le 3 c.args.s.now c.if-s-lt3.false)

pub returns-then-not-in_list : goal.returns-then-not-in_list
unfolding types
returns-then-not-in_list c =
    c.any_of-then-not-in_list.ensures ∙ type_off c.args.s.now (sym c.in_list.ensures ∙ c.if-not-in_list.true)

pub overflow_add-result : goal.overflow_add-result
overflow_add-result c =
    omega (arith, behind_within numbers_place numbers_within c.args.s.now 3 c.place_numbers.result (omega arith) c.place_numbers.ensures)

pub returns : goal.returns
unfolding types
returns c =
    type_on c.args.s.now c.place_numbers.result (sym c.in_list.ensures ∙ c.if-not-in_list.false)
    c.place_numbers.ensures
