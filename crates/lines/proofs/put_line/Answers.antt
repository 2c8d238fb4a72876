-- `lines::put_line` meets its contract. Assumes nothing.
use mathlib.Core.Path.{sym, ◌∙◌}
use native.Mathlib.Omega.{arith}
use Rattle.lines.proofs.Steps.{accepted_fits, accepted_told, refused_fits, refused_told}
use borrow.Author.Rules.{rules}
use Rattle.lines.proofs.put_line.Goals as goal

pub put_around-length-requires : goal.put_around-length-requires
put_around-length-requires c =
    accepted_fits c.args.piece.now c.args.out.now _ c.requires _ _ (sym c.read-answer.ensures.0 ∙ c.in-Ok.is) c.read-answer.ensures.1

pub put_refused-length-requires : goal.put_refused-length-requires
put_refused-length-requires c =
    refused_fits c.args.piece.now c.args.out.now _ c.requires _ _ _ (sym c.read-answer.ensures.0 ∙ c.in-Err.is) c.read-answer.ensures.1 (search rules)

pub returns-in-Ok : goal.returns-in-Ok
returns-in-Ok c =
    rw c.in-Ok.is (accepted_told c.args.piece.now c.args.out.now _ c.requires _ _ (sym c.read-answer.ensures.0 ∙ c.in-Ok.is) c.read-answer.ensures.1 _ _
    c.put_around-length.ensures.0 c.put_around-length.ensures.1)

pub returns-in-Err : goal.returns-in-Err
returns-in-Err c =
    rw c.in-Err.is (refused_told c.args.piece.now c.args.out.now _ c.requires _ _ _ (sym c.read-answer.ensures.0
    ∙ c.in-Err.is) c.read-answer.ensures.1 (search rules) _ _
    c.put_refused-length.ensures.0 c.put_refused-length.ensures.1)
