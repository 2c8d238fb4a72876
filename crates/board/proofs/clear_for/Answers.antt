-- `board::clear_for` meets its contract. Assumes nothing.
use Prim.Native.Nat.{◌<◌}
use mathlib.Core.Path.{refl, sym, ap, ◌∙◌}
use Rattle.outer.specs.declared.Refusal.{Refusal}
use Rattle.racks.proofs.Slots.{flight_inside}
use Rattle.board.proofs.Turns.{refused_turn, clear_none, clear_not, clear_done}
use Rattle.board.proofs.clear_for.Goals.{After-is_over}
use Rattle.board.proofs.clear_for.Goals as goal

inside : (c : After-is_over) → c.args.slot < 10
inside c =
    flight_inside c.args.f c.args.slot c.args.board.places _ (sym c.held_in.ensures ∙ c.in-Some.is)

pub returns-then-not-is_over : goal.returns-then-not-is_over
returns-then-not-is_over c =
    let a = c.args in
    λ bytes.
    clear_not a.f a.slot a.board bytes _ _ c.held_in.ensures c.in-Some.is _
    (c.refused-then-not-is_over.ensures ∙ ap (λ (r : Refusal). refused_turn a.board r) c.of-then-not-is_over.ensures)
    (sym c.is_over.ensures ∙ c.if-not-is_over.true)

pub take_off-b-requires : goal.take_off-b-requires
take_off-b-requires c =
    inside (goal.at.take_off-b-requires c).After-is_over

pub returns-in-None : goal.returns-in-None
returns-in-None c =
    let a = c.args in
    λ bytes. clear_none a.f a.slot a.board bytes _ c.held_in.ensures c.in-None.is _
    (c.refused.ensures ∙ ap (λ (r : Refusal). refused_turn a.board r) c.of.ensures)

pub returns-else-not-is_over : goal.returns-else-not-is_over
returns-else-not-is_over c =
    let a = c.args in
    λ bytes.
    clear_done a.f a.slot a.board bytes _ _ c.held_in.ensures c.in-Some.is _
    (sym c.is_over.ensures ∙ c.if-not-is_over.false) refl c.take_off-b.ensures
