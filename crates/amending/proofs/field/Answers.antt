-- `amending::field` meets its contract. Assumes nothing.
use mathlib.Core.Path.{sym, ap, ◌∙◌}
use Rattle.text.specs.Words.{before}
use Rattle.message.proofs.Nth.{field_at_lem}
use Rattle.amending.proofs.field.Goals as goal

pub returns : goal.returns
returns c =
    let a = c.args in
    c.part.ensures ∙ ap (before 45) c.seek-c.ensures.1 ∙ sym (field_at_lem a.j a.s.now)
