-- `board::file_for` meets its contract. Assumes nothing.
use Prim.Native.Nat.{◌≤◌, ◌<◌}
use mathlib.Core.Path.{◌≡◌, refl, sym, ap, ◌∙◌}
use Rattle.outer.specs.declared.Refusal.{Refusal}
use mathlib.Core.Bool.{true}
use native.Mathlib.Omega.{arith}
use lib.ListN.{length}
use lib.Seq.{length-take-le}
use Rattle.message.specs.Reading.{answer_of}
use Rattle.message.proofs.Reached.{accepted_taken}
use Rattle.board.specs.House.{lent}
use Rattle.board.specs.Turns.{room_for}
use Rattle.board.proofs.Turns.{refused_turn, low_below, file_full, file_unread, file_unfit, file_filed}
use Rattle.board.proofs.file_for.Goals.{After-lowest_of-k, After-read, In-Ok}
use Rattle.board.proofs.file_for.Goals as goal
use Rattle.std.specs.Prelude.{Ok}

room : (c : After-read) → room_for c.args.f c.args.board.places ≡ true
room c =
    sym c.has_room.ensures ∙ c.if-not-has_room.false

read_as_lem : (c : In-Ok) → answer_of c.args.msg.now 1800 ≡ Ok (c.in-Ok.t, c.in-Ok.n)
read_as_lem c =
    sym c.read.ensures.0 ∙ c.in-Ok.is

short : (c : In-Ok) → c.in-Ok.n ≤ 1800
short c =
    let k = accepted_taken _ c.args.msg.now 1800 _ (read_as_lem c) in omega (arith, k.fits, k.long)

fits : (c : In-Ok) → c.in-Ok.n ≤ length c.read.new.out
fits c =
    omega (arith, (short c), c.read.auto.out)

below : (c : After-lowest_of-k) → c.lowest_of-k.result < 10
below c =
    let room : room_for c.args.f c.args.board.places ≡ true = sym c.has_room.ensures ∙ c.if-not-has_room.false in
    let a = c.args in
    omega (arith, c.lowest_of-k.ensures, low_below a.f a.board.places room)

pub returns-then-not-has_room : goal.returns-then-not-has_room
returns-then-not-has_room c =
    let a = c.args in
    file_full a.f a.board a.bytes.now a.msg.now _ (c.refused.ensures ∙ ap (λ (r : Refusal). refused_turn a.board r) c.of.ensures)
    (sym c.has_room.ensures ∙ c.if-not-has_room.true)

pub returns-then-not-is_plan : goal.returns-then-not-is_plan
returns-then-not-is_plan c =
    let a = c.args in
    file_unfit a.f a.board a.bytes.now a.msg.now (room (goal.at.returns-then-not-is_plan c).After-read) _ _ _
    (read_as_lem (goal.at.returns-then-not-is_plan c).In-Ok) (c.refused-then-not-is_plan.ensures ∙ ap (λ (r : Refusal). refused_turn a.board r)
    c.of-then-not-is_plan.ensures)
    (sym c.is_plan.ensures ∙ c.if-not-is_plan.true)

pub slice_bounds-scratch-end : goal.slice_bounds-scratch-end
slice_bounds-scratch-end c =
    fits (goal.at.slice_bounds-scratch-end c).In-Ok

pub slice_bounds-put-end : goal.slice_bounds-put-end
slice_bounds-put-end c =
    sym (length-take-le _ _ (fits (goal.at.slice_bounds-put-end c).In-Ok))

pub put-b-requires : goal.put-b-requires
put-b-requires c = (
  below (goal.at.put-b-requires c).After-lowest_of-k,
  omega (
    arith,
    short (goal.at.put-b-requires c).In-Ok,
    length-take-le _ c.read.new.out
        (fits (goal.at.put-b-requires c).In-Ok),
  ),
)

pub returns-in-Err : goal.returns-in-Err
returns-in-Err c =
    let a = c.args in
    file_unread a.f a.board a.bytes.now a.msg.now (room (goal.at.returns-in-Err c).After-read) _ _ c.refused-in-Err.ensures
    (sym c.read.ensures.0 ∙ c.in-Err.is)

pub returns-else-not-is_plan : goal.returns-else-not-is_plan
returns-else-not-is_plan c =
    let a = c.args in
    file_filed a.f a.board a.bytes.now a.msg.now (room (goal.at.returns-else-not-is_plan c).After-read) _ _ _
    (read_as_lem (goal.at.returns-else-not-is_plan c).In-Ok) lent c.read.new.out _ _
    (sym c.is_plan.ensures ∙ c.if-not-is_plan.false) c.read.ensures.1 refl c.lowest_of-k.ensures refl c.put-b.ensures
