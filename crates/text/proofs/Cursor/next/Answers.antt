-- `text::Cursor::next` meets its contract. Assumes nothing.
use Rattle.text.proofs.Index.{stepped, stepped_end}
use borrow.Author.Rules.{rules}
use Rattle.text.proofs.Cursor.next.Goals as goal

pub returns-then-e-s : goal.returns-then-e-s
returns-then-e-s c =
    let a = c.args in stepped a.c a.s.now a.self.at _ c.end-e.ensures.value (search rules) c.if-e-s.true

pub returns-else-e-s : goal.returns-else-e-s
returns-else-e-s c =
    let a = c.args in
    let f = c.end-e.ensures in
    stepped_end a.c a.s.now a.self.at _ f.value (search rules) f.lower_bound.1 c.if-e-s.false
