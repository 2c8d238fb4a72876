-- `message::unexplained_by` meets its contract. Assumes nothing.
use Rattle.message.proofs.unexplained_by.Goals as goal

pub returns : goal.returns
returns c =
    rw (
      ← c.content_at.ensures,
      ← c.content_at-2.ensures,
      ← c.content_at-3.ensures,
      ← c.content_at-4.ensures,
    ) c.unexplained_field.ensures
