-- `amending::behind` meets its contract. Assumes nothing.
use Rattle.text.proofs.Index.{drop_end}
use Prim.Native.Nat.{ℕ, suc}
use mathlib.Core.Path.{sym, ap, ◌∙◌}
use lib.ListN.{drop}
use native.Mathlib.Numerals.{add-one}
use native.Mathlib.Omega.{arith}
use Rattle.amending.proofs.behind.Goals as goal

pub returns-then-e-plan : goal.returns-then-e-plan
returns-then-e-plan c =
    (omega arith, ap (λ (i : ℕ). drop i c.args.plan.now) (add-one c.args.e))

pub returns : goal.returns
returns c =
    let p = c.args.plan.now in
    let e = c.args.e in
    (c.requires, drop_end p e (omega arith) ∙ sym (drop_end p (suc e) (omega arith)))
