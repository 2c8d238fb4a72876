-- `kinds::arrival_row` meets its contract. Assumes nothing.
use Rattle.std.proofs.Common.{rules}
use borrow.Author.Tests.{ne_eqb}
use Rattle.kinds.specs.Kinds.{forms_of, form_at, arrival_forms, diverted_forms}
use Rattle.kinds.specs.declared.MessageType.TheVariants.{Arr}
use Rattle.kinds.proofs.Fields.{row_filled}
use Rattle.kinds.proofs.arrival_row.Goals as goal

pub returns-then-count-eq4 : goal.returns-then-count-eq4
unfolding form_at forms_of arrival_forms
returns-then-count-eq4 c =
    row_filled Arr c.args.count arrival_forms c.filled.result (search rules) (λ j. rw c.if-count-eq4.true) c.filled.ensures

pub returns : goal.returns
unfolding form_at forms_of diverted_forms
returns c =
    row_filled Arr c.args.count diverted_forms c.filled-2.result (search rules) (λ j. rw (ne_eqb _ 4 c.if-count-eq4.false)) c.filled-2.ensures
