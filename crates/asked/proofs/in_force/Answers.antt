-- `asked::in_force` meets its contract. Assumes nothing.
use Rattle.std.specs.Prelude.{Ok}
use mathlib.Core.Path.{◌≡◌, refl, ap, ◌∙◌}
use Rattle.space.specs.Fields.{inner}
use Rattle.force.specs.InForce.{in_force}
use Rattle.asked.specs.Asking.{Asked, rank_of}
use Rattle.asked.specs.Parts.{Shows}
use Rattle.asked.proofs.Steps.{shows_so, part_shown}
use Rattle.asked.proofs.in_force.Goals.{After-ask}
use Rattle.asked.proofs.in_force.Goals as goal

-- the field in force stands at the place that the answer gives, in the strip or in the CHG
holds : (c : After-ask) → {r : Asked} → c.ask.result ≡ r
    → Shows r c.args.strip.now c.args.chg.now
    (in_force (inner c.args.strip.now) (inner c.args.chg.now) (rank_of c.args.number))
holds c is =
    let a = c.args in
    shows_so a.strip.now a.held a.chg.now a.number (c.ask.ensures.value, c.ask.ensures.shows) is

pub slice_bounds-result-count : goal.slice_bounds-result-count
slice_bounds-result-count c =
    (holds (goal.at.slice_bounds-result-count c).After-ask (c.in-Ok-InStrip.is ∙ ap Ok c.in-Ok-InStrip.field-0-is)).0

pub slice_bounds-result-start : goal.slice_bounds-result-start
slice_bounds-result-start c =
    (holds (goal.at.slice_bounds-result-start c).After-ask (c.in-Ok-InStrip.is ∙ ap Ok c.in-Ok-InStrip.field-0-is)).0

pub slice_bounds-result-end : goal.slice_bounds-result-end
slice_bounds-result-end c =
    (holds (goal.at.slice_bounds-result-end c).After-ask (c.in-Ok-InStrip.is ∙ ap Ok c.in-Ok-InStrip.field-0-is)).1

pub slice_bounds-result-count-in-Ok-InChange : goal.slice_bounds-result-count-in-Ok-InChange
slice_bounds-result-count-in-Ok-InChange c =
    (holds (goal.at.slice_bounds-result-count-in-Ok-InChange c).After-ask (c.in-Ok-InChange.is ∙ ap Ok c.in-Ok-InChange.field-0-is)).0

pub slice_bounds-result-start-in-Ok-InChange : goal.slice_bounds-result-start-in-Ok-InChange
slice_bounds-result-start-in-Ok-InChange c =
    (holds (goal.at.slice_bounds-result-start-in-Ok-InChange c).After-ask (c.in-Ok-InChange.is ∙ ap Ok c.in-Ok-InChange.field-0-is)).0

pub slice_bounds-result-end-in-Ok-InChange : goal.slice_bounds-result-end-in-Ok-InChange
slice_bounds-result-end-in-Ok-InChange c =
    (holds (goal.at.slice_bounds-result-end-in-Ok-InChange c).After-ask (c.in-Ok-InChange.is ∙ ap Ok c.in-Ok-InChange.field-0-is)).1

pub returns-in-Ok-InStrip : goal.returns-in-Ok-InStrip
returns-in-Ok-InStrip c =
    let a = c.args in
    let is = c.in-Ok-InStrip.is ∙ ap Ok c.in-Ok-InStrip.field-0-is in
    let told = part_shown a.strip.now a.held a.chg.now a.number (c.ask.ensures.value, c.ask.ensures.shows) is
    a.strip.ref_ptr.0 a.strip.ref_ptr.1 a.chg.ref_ptr.0 a.chg.ref_ptr.1 _ _ _ (holds (goal.at.returns-in-Ok-InStrip c).After-ask is).2 (refl, refl) in
    record { result_value = told.0; stands_at = told.1 }

pub returns-in-Ok-InChange : goal.returns-in-Ok-InChange
returns-in-Ok-InChange c =
    let a = c.args in
    let is = c.in-Ok-InChange.is ∙ ap Ok c.in-Ok-InChange.field-0-is in
    let told = part_shown a.strip.now a.held a.chg.now a.number (c.ask.ensures.value, c.ask.ensures.shows) is
    a.strip.ref_ptr.0 a.strip.ref_ptr.1 a.chg.ref_ptr.0 a.chg.ref_ptr.1 _ _ _ (holds (goal.at.returns-in-Ok-InChange c).After-ask is).2 (refl, refl) in
    record { result_value = told.0; stands_at = told.1 }

pub returns-in-Err : goal.returns-in-Err
returns-in-Err c =
    let a = c.args in let told = part_shown a.strip.now a.held a.chg.now a.number (c.ask.ensures.value, c.ask.ensures.shows) c.in-Err.is
    a.strip.ref_ptr.0 a.strip.ref_ptr.1 a.chg.ref_ptr.0 a.chg.ref_ptr.1 _ _ _ refl (refl, refl) in record { result_value = told.0; stands_at = told.1 }
