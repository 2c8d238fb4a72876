-- `forms::rank_in` meets its contract. Assumes nothing.
use mathlib.Core.Path.{◌∙◌}
use Rattle.forms.proofs.Forms.{entry_rank, other_rank}
use native.Mathlib.Omega.{arith}
use Rattle.forms.proofs.rank_in.Goals as goal

pub returns-then-number-eq22 : goal.returns-then-number-eq22
returns-then-number-eq22 c =
    let a = c.args in
    let r = c.rank_of_entry.ensures in
    (r.0 ∙ entry_rank a.f a.s.now _ c.number.ensures c.if-number-eq22.true, r.1)

pub returns : goal.returns
returns c =
    let a = c.args in (other_rank a.f a.s.now _ c.number.ensures c.if-number-eq22.false, omega arith)
