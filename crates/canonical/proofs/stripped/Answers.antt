-- `canonical::stripped` meets its contract. Assumes nothing.
use Rattle.std.proofs.Common.{rules}
use Prim.Native.Nat.{ℕ}
use lib.ListN.{drop}
use mathlib.Core.Path.{sym, ap, ◌∙◌}
use lib.Dec.{eqb}
use borrow.Author.Tests.{tests}
use Rattle.std.proofs.lemmas.Iterator.{YieldsList-from_slice}
use Rattle.std.proofs.lemmas.Iterator.Search.{position_from_yields_List}
use Rattle.text.proofs.Index.{rest}
use mathlib.Core.Bool.{not}
use Rattle.canonical.proofs.Counts.{stripped_some, stripped_none}
use Rattle.canonical.proofs.stripped.Goals as goal

pub returns-in-Some : goal.returns-in-Some
returns-in-Some c =
    let w = c.args.w.now in
    let found = position_from_yields_List (λ b. not (eqb b 48)) _ _ c.position.result c.position.ensures.ran (YieldsList-from_slice w (search rules))
    (λ x b q k. search (rules, tests)) in
    rest w c.in-Some.k ∙ sym (stripped_some w c.position.result found c.in-Some.k c.in-Some.is).1

pub returns-in-None : goal.returns-in-None
returns-in-None c =
    let w = c.args.w.now in
    let found = position_from_yields_List (λ b. not (eqb b 48)) _ _ c.position.result c.position.ensures.ran (YieldsList-from_slice w (search rules))
    (λ x b q k. search (rules, tests)) in
    let k = c.saturating_sub in
    rest w k.result ∙ ap (λ (m : ℕ). drop m w) k.ensures ∙ sym (stripped_none w c.position.result found c.in-None.is)
