use Rattle.std.proofs.Common.{rules, ◌-◌, take}
use Rattle.std.specs.Prelude.{reverse}
use mathlib.Core.Path.{ap, sym, ◌∙◌}
use borrow.Author.Tests.{tests}
use lib.Seq.{length-take-le}
use Rattle.std.proofs.lemmas.List.{length-reverse}
use Rattle.std.proofs.lemmas.Iterator.Adapters.{YieldsList-from_rev_slice}
use Rattle.std.proofs.lemmas.Iterator.Search.{position_from_yields_List}
use Rattle.mark.specs.Mark.{ends_line}
use Rattle.mark.proofs.Lines.{ahead_found, start_back}
use Rattle.mark.proofs.line_start.Goals as goal

pub returns-clause-value : goal.returns-clause-value
returns-clause-value c =
    let a = c.args in
    let s = take a.place a.s.now in
    let found =
    position_from_yields_List ends_line _ _ c.position-before.result c.position-before.ensures.ran (YieldsList-from_rev_slice s (search rules))
    (λ x b q k. search (rules, tests)) in
    let long = sym (length-reverse s ∙ length-take-le a.place a.s.now c.requires) in
    ap (λ n. a.place - n) (ahead_found (reverse s) _ found a.place long _ c.unwrap_or.ensures) ∙ sym (start_back a.s.now a.place c.requires)
