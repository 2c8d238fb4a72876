-- `message::read_text` meets its contract. Assumes nothing.
use mathlib.Core.Path.{refl, sym, ◌∙◌}
use lib.ListN.{length}
use Rattle.message.proofs.Faults.{fault_inside}
use Rattle.message.proofs.Steps.{field_fault, fault_placed, fields_clear}
use Rattle.message.proofs.read_text.Goals as goal

pub field_ends-ends-requires : goal.field_ends-ends-requires
field_ends-ends-requires c =
    c.requires.1

pub fields_fault-requires : goal.fields_fault-requires
fields_fault-requires c =
    (c.field_ends-ends.ensures, c.requires.0.even)

pub content_at-w-requires : goal.content_at-w-requires
content_at-w-requires c =
    (c.field_ends-ends.ensures, fault_inside _ _ _ _ _ (sym c.fields_fault.ensures ∙ c.in-Err.is))

pub read_explained-requires : goal.read_explained-requires
read_explained-requires c =
    (c.requires.0, c.field_ends-ends.ensures, sym c.fields_fault.ensures ∙ c.in_default.is)

pub returns-in-Err : goal.returns-in-Err
returns-in-Err c =
    rw (
      field_fault _ _ _ _ c.requires.0 (length c.args.out.now) _ _ (sym c.fields_fault.ensures ∙ c.in-Err.is),
      ← fault_placed _ _ _ _ c.requires.0 _ _ _ _ c.form_at-form.ensures c.content_at-w.ensures,
      ← c.form_at-form.ensures,
      ← c.number.ensures,
      ← c.fault_place.ensures,
    ) (refl, refl)

pub returns : goal.returns
returns c =
    let clear = fields_clear _ _ _ _ c.requires.0 (length c.args.out.now) (sym c.fields_fault.ensures ∙ c.in_default.is) in
    rw clear c.read_explained.ensures
