use Rattle.std.proofs.Common.{rules, ◌+◌, ◌-◌, length, take, drop}
use mathlib.Core.Path.{ap, refl, ◌∙◌}
use borrow.Author.Tests.{tests}
use Rattle.std.proofs.lemmas.Iterator.{YieldsList-from_slice}
use Rattle.std.proofs.lemmas.Iterator.Search.{position_from_yields_List}
use Rattle.text.proofs.Index.{rest}
use Rattle.mark.specs.Mark.{ends_line, ahead}
use Rattle.mark.proofs.Lines.{ahead_found}
use Rattle.mark.proofs.line_end.Goals as goal

pub returns-clause-value : goal.returns-clause-value
returns-clause-value c =
    let a = c.args in
    let s = take (length a.s.now - a.place) (drop a.place a.s.now) in
    let found =
    position_from_yields_List ends_line _ _ c.position.result c.position.ensures.ran (YieldsList-from_slice s (search rules))
    (λ x b q k. search (rules, tests)) in
    ap (λ n. a.place + n) (ahead_found s _ found _ refl _ c.unwrap_or.ensures ∙ ap ahead (rest a.s.now a.place))
