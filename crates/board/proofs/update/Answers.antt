-- `board::update` meets its contract. Assumes nothing.
use mathlib.Core.Path.{sym, ap, ◌∙◌}
use Rattle.outer.specs.declared.Refusal.{Refusal}
use Rattle.rooms.specs.Rooms.Act.{update}
use Rattle.board.proofs.Turns.{refused_turn, by_firm, by_nobody}
use Rattle.board.proofs.update.Goals as goal

pub returns-in-None : goal.returns-in-None
returns-in-None c =
    let a = c.args in
    by_nobody (update a.slot a.msg.now) a.board a.bytes.now _ a.firm
    (sym c.from_number.ensures ∙ c.in-None.is) (c.refused.ensures ∙ ap (λ (r : Refusal). refused_turn a.board r) c.of.ensures)

pub returns-in-Some : goal.returns-in-Some
returns-in-Some c =
    let a = c.args in
    by_firm (update a.slot a.msg.now) a.board.places a.bytes.now _ _ a.firm _
    (sym c.from_number.ensures ∙ c.in-Some.is) c.update_for.ensures
