-- `supplement::fits_field19` meets its contract. Assumes nothing.
use Rattle.std.proofs.Common.{rules}
use mathlib.Core.Path.{sym, ap, ◌∙◌}
use Rattle.std.specs.Prelude.{eqb}
use Rattle.std.specs.List.{slice_split}
use borrow.Author.Tests.{tests}
use Rattle.std.proofs.lemmas.Iterator.Consumers.{fold_from_yields_List}
use Rattle.std.proofs.lemmas.Iterator.Splits.{YieldsList-from_slice_split}
use Rattle.text.proofs.Iterated.{split_listed}
use Rattle.supplement.specs.declared.Stage.TheVariants.{Start}
use Rattle.supplement.specs.Walk.{complete as complete_at, step, walked}
use Rattle.supplement.proofs.Walk.{walk_fits, walked_folded}
use Rattle.supplement.proofs.fits_field19.Goals as goal

pub returns : goal.returns
returns c =
    let s = c.args.s.now in
    let folded =
    fold_from_yields_List _ step Start c.fold-stage.result c.fold-stage.ensures.ran
    (YieldsList-from_slice_split _ (λ b. eqb b 32) s c.split.ensures.rest c.split.ensures.done c.split.ensures.closure (λ x b q k. search (rules, tests)))
    (λ a x b q k. search (rules, tests)) in
    c.complete.ensures
    ∙ (ap complete_at folded ∙ sym (walked_folded Start (slice_split (λ b. eqb b 32) s)))
    ∙ (ap (walked Start) (split_listed 32 s) ∙ walk_fits s)
