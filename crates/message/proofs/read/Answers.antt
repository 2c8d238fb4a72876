-- `message::read` meets its contract. Assumes nothing.
use mathlib.Core.Path.{refl, sym, ◌∙◌}
use Rattle.std.proofs.lemmas.Result.{err_from_is_err_and}
use Rattle.message.specs.Reading.{answer_of, out_after}
use Rattle.message.proofs.read.Goals as goal

pub read_type-requires : goal.read_type-requires
read_type-requires c =
    sym c.check_outer.ensures ∙ c.in_ok-check_outer.was

pub returns-in_err-check_outer : goal.returns-in_err-check_outer
unfolding answer_of out_after
returns-in_err-check_outer c =
    let p = err_from_is_err_and c.from_residual.result c.from_residual.ensures.1 in
    rw (p.1, p.2, sym c.check_outer.ensures ∙ c.in_err-check_outer.was) (refl, refl)

pub returns : goal.returns
unfolding answer_of out_after
returns c =
    rw (sym c.check_outer.ensures ∙ c.in_ok-check_outer.was) c.read_type.ensures
