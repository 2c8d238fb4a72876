-- `message::note` meets its contract. Assumes nothing.
use mathlib.Core.Path.{sym, ◌∙◌}
use Rattle.message.proofs.Ends.{noted_over}
use Rattle.message.proofs.note.Goals as goal

pub returns-then-is_free : goal.returns-then-is_free
returns-then-is_free c =
    noted_over _ _ _ _ c.requires.2 c.args.to c.requires.0 c.requires.1 (sym c.is_free.ensures ∙ c.if-is_free.true)
