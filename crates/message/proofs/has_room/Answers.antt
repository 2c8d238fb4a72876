-- `message::has_room` meets its contract. Assumes nothing.
use native.Mathlib.Omega.{arith}
use mathlib.Core.Path.{sym, ap}
use Prim.Native.Nat.{ℕ}
use lib.Dec.{leb}
use lib.ListN.{length}
use borrow.Author.Tests.{le-leb}
use Rattle.text.specs.Words.{split}
use Rattle.kinds.specs.Kinds.{forms_of}
use Rattle.message.specs.Reading.{spelled_from}
use Rattle.message.proofs.Walk.{spelled_short}
use Rattle.message.proofs.has_room.Goals as goal

pub overflow_add-s : goal.overflow_add-s
overflow_add-s c =
    omega (arith, c.requires.0)

pub returns-then-s-room : goal.returns-then-s-room
returns-then-s-room c =
    let a = c.args in
    let h = spelled_short (forms_of a.t a.count) a.s.now in
    sym (le-leb (length (spelled_from 40 (forms_of a.t a.count) (split 45 a.s.now))) a.room (omega (arith, h, c.if-s-room.true)))

pub spelled_length-requires : goal.spelled_length-requires
spelled_length-requires c =
    c.requires

pub returns : goal.returns
returns c =
    ap (λ (n : ℕ). leb n c.args.room) c.spelled_length.ensures
