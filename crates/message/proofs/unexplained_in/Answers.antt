-- `message::unexplained_in` meets its contract. Assumes nothing.
use mathlib.Core.Path.{◌≡◌}
use lib.ListN.{drop}
use Rattle.space.specs.Hyphens.{behind_hyphen}
use Rattle.kinds.specs.Kinds.{plan9, plan13, plan16, plan18}
use Rattle.message.proofs.Nth.{field_part, further}
use Rattle.message.proofs.unexplained_in.Goals.{After-onward-eighteen}
use Rattle.message.proofs.unexplained_in.Goals as goal

at-nine : (c : After-onward-eighteen) → drop c.onward-nine.result.at c.args.plan.now ≡ behind_hyphen plan9 c.args.plan.now
at-nine c =
    c.onward-nine.ensures.1

at-thirteen : (c : After-onward-eighteen) → drop c.onward-thirteen.result.at c.args.plan.now ≡ behind_hyphen plan13 c.args.plan.now
at-thirteen c =
    further plan9 2 c.args.plan.now c.onward-nine.result.at c.onward-thirteen.result.at (at-nine c) c.onward-thirteen.ensures.1

at-sixteen : (c : After-onward-eighteen) → drop c.onward-sixteen.result.at c.args.plan.now ≡ behind_hyphen plan16 c.args.plan.now
at-sixteen c =
    further plan13 2 c.args.plan.now c.onward-thirteen.result.at c.onward-sixteen.result.at (at-thirteen c) c.onward-sixteen.ensures.1

at-eighteen : (c : After-onward-eighteen) → drop c.onward-eighteen.result.at c.args.plan.now ≡ behind_hyphen plan18 c.args.plan.now
at-eighteen c =
    further plan16 1 c.args.plan.now c.onward-sixteen.result.at c.onward-eighteen.result.at (at-sixteen c) c.onward-eighteen.ensures.1

pub returns : goal.returns
returns c =
    let is-nine = field_part plan9 c.onward-nine.result.at c.args.plan.now _ (at-nine (goal.at.returns c).After-onward-eighteen) c.part.ensures in
    let is-thirteen = field_part plan13 c.onward-thirteen.result.at c.args.plan.now _ (at-thirteen (goal.at.returns c).After-onward-eighteen)
    c.part-2.ensures in
    let is-sixteen = field_part plan16 c.onward-sixteen.result.at c.args.plan.now _ (at-sixteen (goal.at.returns c).After-onward-eighteen) c.part-3.ensures in
    let is-eighteen = field_part plan18 c.onward-eighteen.result.at c.args.plan.now _ (at-eighteen (goal.at.returns c).After-onward-eighteen)
    c.part-4.ensures in
    rw (← is-nine, ← is-thirteen, ← is-sixteen, ← is-eighteen) c.unexplained_field.ensures
