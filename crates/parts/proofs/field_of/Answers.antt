-- `parts::field_of` meets its contract. Assumes nothing.
use mathlib.Core.Bool.{Bool}
use mathlib.Core.Path.{◌≡◌, sym, ap, ◌∙◌}
use Rattle.parts.specs.Parts.{taken_of}
use Rattle.parts.proofs.Own.{taken_own}
use Rattle.std.proofs.lemmas.Result.{err_from_is_err_and}
use Rattle.parts.proofs.Answers.{field-refused, field-other, field-given}
use Rattle.parts.proofs.field_of.Goals.{In_ok-t}
use Rattle.parts.proofs.field_of.Goals as goal
use Rattle.std.specs.Prelude.{Ok}

taken : (c : In_ok-t) → taken_of c.args.spelling.now ≡ Ok (c.in_ok-t.t, c.in_ok-t.own)
taken c =
    sym c.read_own.ensures ∙ c.in_ok-t.was

pub returns-then-not-own : goal.returns-then-not-own
returns-then-not-own c =
    let a = c.args in let told = field-other a.spelling.now a.number _ _ (taken (goal.at.returns-then-not-own c).In_ok-t) (c.if-not-own.true) in
    record { value = rw c.of.ensures told.0; shows = tt }

pub field_in-requires : goal.field_in-requires
field_in-requires c =
    let t = c.in_ok-t.t in
    taken_own c.args.spelling.now t (taken (goal.at.field_in-requires c).In_ok-t ∙ ap (λ (b : Bool). Ok (t, b)) (c.if-not-own.false))

pub returns-in_err-t : goal.returns-in_err-t
returns-in_err-t c =
    let a = c.args in
    let p = err_from_is_err_and c.from_residual.result c.from_residual.ensures.1 in
    let told = field-refused a.spelling.now a.number _ _ _ (sym c.read_own.ensures ∙ c.in_err-t.was) in
    record { value = rw (p.1, p.2) told.0; shows = rw p.1 tt }

pub returns : goal.returns
returns c =
    let a = c.args in let told = field-given a.spelling.now a.number _ _ (taken (goal.at.returns c).In_ok-t) (c.if-not-own.false) _
    c.field_in.ensures in record { value = told.0; shows = told.1 }
