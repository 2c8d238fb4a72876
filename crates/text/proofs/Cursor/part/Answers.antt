-- `text::Cursor::part` meets its contract. Assumes nothing.
use Rattle.text.proofs.Index.{piece}
use Rattle.text.proofs.Cursor.part.Goals as goal

pub returns : goal.returns
returns c =
    let a = c.args in piece a.c a.s.now a.self.at _ c.end-e.ensures.value
