-- `outer::check_outer` meets its contract. Assumes nothing.
use Rattle.std.specs.Prelude.{Err}
use mathlib.Core.Path.{sym, ap, ◌∙◌}
use Rattle.std.proofs.lemmas.Result.{err_from_is_err_and}
use Rattle.outer.proofs.Laws.{outer_long, outer_parens, outer_letters}
use Rattle.outer.proofs.Walk.{is_ok_lem}
use Rattle.outer.proofs.check_outer.Goals as goal

pub returns-then-passes : goal.returns-then-passes
returns-then-passes c =
    sym (is_ok_lem _ (sym c.passes.ensures ∙ c.if-passes.true))

pub returns-then-msg-gt-MOST_BYTES : goal.returns-then-msg-gt-MOST_BYTES
returns-then-msg-gt-MOST_BYTES c =
    ap Err c.at.ensures ∙ sym (outer_long _ c.if-msg-gt-MOST_BYTES.true)

pub returns-in_err-check_parens : goal.returns-in_err-check_parens
returns-in_err-check_parens c =
    let p = err_from_is_err_and c.from_residual.result c.from_residual.ensures.1 in
    let q = sym c.check_parens.ensures ∙ c.in_err-check_parens.was in
    p.1 ∙ ap Err p.2 ∙ sym (outer_parens _ c.if-msg-gt-MOST_BYTES.false _ q)

pub returns : goal.returns
returns c =
    let q = sym c.check_parens.ensures ∙ c.in_ok-check_parens.was in
    c.check_letters.ensures ∙ sym (outer_letters _ c.if-msg-gt-MOST_BYTES.false q)
