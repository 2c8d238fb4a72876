-- `aerodromes::alternates` meets its contract. Assumes nothing.
use Rattle.std.proofs.Common.{rules}
use mathlib.Core.Path.{sym, ap, ◌∙◌}
use mathlib.Core.List.{List}
use lib.ListN.{length}
use Rattle.std.specs.Prelude.{eqb}
use borrow.Author.Tests.{tests, le-leb, lt-leb}
use Rattle.std.proofs.lemmas.Iterator.Consumers.{count_from_yields_List}
use Rattle.std.proofs.lemmas.Iterator.Search.{all_from_yields_List}
use Rattle.std.proofs.lemmas.Iterator.Splits.{YieldsList-from_slice_split}
use Rattle.text.specs.Words.{Word, all}
use Rattle.text.proofs.Iterated.{all_listed, split_listed}
use Rattle.aerodromes.specs.Aerodromes.{four_letters}
use Rattle.aerodromes.specs.Field16.{most_alternates}
use Rattle.aerodromes.proofs.Index.{too_long}
use Rattle.aerodromes.proofs.alternates.Goals as goal

pub returns-then-list : goal.returns-then-list
returns-then-list c = sym (too_long most_alternates c.args.list.now c.if-list.true)

pub returns-then-count-gt-MOST_ALTERNATES : goal.returns-then-count-gt-MOST_ALTERNATES
returns-then-count-gt-MOST_ALTERNATES c =
    let s = c.args.list.now in
    let counted =
    count_from_yields_List _ c.count.result c.count.ensures.ran
    (YieldsList-from_slice_split _ (λ b. eqb b 32) s c.split.ensures.rest c.split.ensures.done c.split.ensures.closure (λ x b q k. search (rules, tests)))
    ∙ ap (λ (ws : List Word). length ws) (split_listed 32 s) in
    rw (← counted, lt-leb _ _ c.if-count-gt-MOST_ALTERNATES.true)

pub returns : goal.returns
returns c =
    let s = c.args.list.now in
    let counted =
    count_from_yields_List _ c.count.result c.count.ensures.ran
    (YieldsList-from_slice_split _ (λ b. eqb b 32) s c.split.ensures.rest c.split.ensures.done c.split.ensures.closure (λ x b q k. search (rules, tests)))
    ∙ ap (λ (ws : List Word). length ws) (split_listed 32 s) in
    let again = c.split-2.ensures in
    rw (← counted, le-leb _ 2 c.if-count-gt-MOST_ALTERNATES.false)
    (all_from_yields_List four_letters _ _ _ c.all.ensures.ran
    (YieldsList-from_slice_split _ (λ b. eqb b 32) s again.rest again.done again.closure (λ x b q k. search (rules, tests)))
    (λ x b q k. search (rules, tests))
    ∙ (all_listed four_letters _ ∙ ap (all four_letters) (split_listed 32 s)))
