-- `text::end_of` meets its contract. Assumes nothing.
use Rattle.std.proofs.Common.{rules, ◌+◌, length, drop}
use Rattle.std.specs.Prelude.{not}
use Rattle.std.specs.Option.{unwrap_or}
use mathlib.Core.Path.{ap, ◌∙◌}
use borrow.Author.Tests.{tests}
use Rattle.std.proofs.lemmas.Iterator.{YieldsList-from_slice}
use Rattle.std.proofs.lemmas.Iterator.Search.{position_from_yields_List}
use Rattle.text.specs.Kinds.{of_kind}
use Rattle.text.proofs.Index.{rest}
use Rattle.text.proofs.Iterated.{leading_found}
use Rattle.text.proofs.end_of.Goals as goal

pub returns-clause-value : goal.returns-clause-value
returns-clause-value c =
    let a = c.args in
    let s = drop a.from a.s.now in
    let found = position_from_yields_List (λ b. not (of_kind a.k b)) _ _ c.position.result c.position.ensures.ran
    (YieldsList-from_slice s (search (rules, rest)))
    (λ x b q k. search (rules, tests)) in
    ap (λ n. a.from + n) (leading_found (of_kind a.k) s _ found _
    (c.unwrap_or.ensures ∙ ap (λ s. unwrap_or c.position.result (length s)) (rest a.s.now a.from))).0
