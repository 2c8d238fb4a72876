-- `message::read_room` meets its contract. Assumes nothing.
use mathlib.Core.Path.{refl, sym, ◌∙◌}
use native.Mathlib.Omega.{arith}
use lib.ListN.{length}
use borrow.Author.Tests.{leb-true, leb-false}
use Rattle.text.specs.Words.{split}
use Rattle.kinds.specs.Kinds.{forms_of}
use Rattle.message.specs.Reading.{spelled_from}
use Rattle.message.proofs.Steps.{room_short, room_enough, spelling_is}
use Rattle.message.proofs.read_room.Goals as goal

pub has_room-requires : goal.has_room-requires
has_room-requires c =
    (c.requires.0.short, c.requires.0.even)

pub returns-then-not-has_room : goal.returns-then-not-has_room
returns-then-not-has_room c =
    let h = leb-false (length (spelled_from 40 (forms_of c.args.t c.args.count) (split 45 c.args.s.now))) (length c.args.out.now)
    (sym c.has_room.ensures ∙ c.if-not-has_room.true) in
    rw (
      c.of.ensures,
      room_short _ _ _ _ c.requires.0 (length c.args.out.now) (length (spelled_from 40 (forms_of c.args.t c.args.count)
          (split 45 c.args.s.now))) refl h,
    )
    (refl, refl)

pub write_fields-n-requires : goal.write_fields-n-requires
write_fields-n-requires c =
    (c.requires.1, leb-true _ _ (sym c.has_room.ensures ∙ c.if-not-has_room.false), c.requires.0.even, c.requires.2)

pub returns : goal.returns
returns c =
    let k = c.requires.0 in
    let n = c.write_fields-n.ensures in
    let h = leb-true (length (spelled_from 40 (forms_of c.args.t c.args.count) (split 45 c.args.s.now))) (length c.args.out.now)
    (sym c.has_room.ensures ∙ c.if-not-has_room.false) in
    rw (room_enough _ _ _ _ k (length c.args.out.now) _ n.0 (omega (arith, n.0)), ← spelling_is _ _ _ _ k) (refl, n.1)
