-- `board::update_for` meets its contract. Assumes nothing.
use Prim.Native.Nat.{ℕ, ◌≤◌, ◌<◌}
use mathlib.Core.Path.{◌≡◌, refl, sym, ap, ◌∙◌}
use Rattle.outer.specs.declared.Refusal.{Refusal}
use mathlib.Core.List.{List}
use native.Mathlib.Omega.{arith}
use lib.ListN.{length}
use lib.Seq.{length-take-le}
use Rattle.strip.specs.Updating.{Updated, update_of, out_after}
use Rattle.history.proofs.Causes.{accepted_fits}
use Rattle.racks.specs.Places.{shown_to}
use Rattle.racks.proofs.Slots.{flight_inside}
use Rattle.board.specs.House.{lent}
use Rattle.board.proofs.Turns.{refused_turn, update_none, update_refused, update_taken}
use Rattle.board.proofs.update_for.Goals.{After-update, In-Ok}
use Rattle.board.proofs.update_for.Goals as goal

inside : (c : After-update) → c.args.slot < 10
inside c =
    flight_inside c.args.f c.args.slot c.args.board.places _ (sym c.held_in.ensures ∙ c.in-Some.is)

-- what the update gave, of the strip that stands there
updates : (c : After-update) → (u : Updated) → c.update.result ≡ u → update_of ((shown_to c.args.f c.args.slot c.args.board.places c.args.bytes.now))
    c.in-Some.flight.held c.args.msg.now 1800 ≡ u
updates c u e =
    sym (ap (λ (w : List ℕ). update_of w c.in-Some.flight.held c.args.msg.now 1800) c.strip_in.ensures)
    ∙ sym c.update.ensures.0
    ∙ e

new_is : (c : After-update) → c.update.new.out ≡ out_after ((shown_to c.args.f c.args.slot c.args.board.places c.args.bytes.now)) c.in-Some.flight.held
    c.args.msg.now lent
new_is c =
    c.update.ensures.1 ∙ ap (λ (w : List ℕ). out_after w c.in-Some.flight.held c.args.msg.now lent) c.strip_in.ensures

short : (c : In-Ok) → c.in-Ok.n ≤ 1800
short c =
    let updates : (u : Updated) → c.update.result ≡ u → update_of ((shown_to c.args.f c.args.slot c.args.board.places c.args.bytes.now)) c.in-Some.flight.held
    c.args.msg.now 1800 ≡ u = λ u e. sym (ap (λ (w : List ℕ). update_of w c.in-Some.flight.held c.args.msg.now 1800) c.strip_in.ensures)
    ∙ sym c.update.ensures.0
    ∙ e in
    accepted_fits _ _ _ 1800 _ _ (updates _ c.in-Ok.is)

fits : (c : In-Ok) → c.in-Ok.n ≤ length c.update.new.out
fits c =
    omega (arith, (short c), c.update.auto.out)

pub slice_bounds-new-end : goal.slice_bounds-new-end
slice_bounds-new-end c =
    fits (goal.at.slice_bounds-new-end c).In-Ok

pub slice_bounds-put-end : goal.slice_bounds-put-end
slice_bounds-put-end c =
    sym (length-take-le _ _ (fits (goal.at.slice_bounds-put-end c).In-Ok))

pub put-b-requires : goal.put-b-requires
put-b-requires c = (
  inside (goal.at.put-b-requires c).After-update,
  omega (
    arith,
    short (goal.at.put-b-requires c).In-Ok,
    length-take-le _ c.update.new.out
        (fits (goal.at.put-b-requires c).In-Ok),
  ),
)

pub returns-in-None : goal.returns-in-None
returns-in-None c =
    let a = c.args in
    update_none a.f a.slot a.board a.bytes.now _ c.held_in.ensures c.in-None.is a.msg.now _
    (c.refused.ensures ∙ ap (λ (r : Refusal). refused_turn a.board r) c.of.ensures)

pub returns-in-Err : goal.returns-in-Err
returns-in-Err c =
    let a = c.args in
    update_refused a.f a.slot a.board a.bytes.now _ _ c.held_in.ensures c.in-Some.is a.msg.now
    _ _ c.refused-in-Err.ensures (updates (goal.at.returns-in-Err c).After-update _ c.in-Err.is)

pub returns-in-Ok : goal.returns-in-Ok
returns-in-Ok c =
    let a = c.args in
    update_taken a.f a.slot a.board a.bytes.now _ _ c.held_in.ensures c.in-Some.is a.msg.now
    _ _ c.update.new.out _ _ (updates (goal.at.returns-in-Ok c).After-update _ c.in-Ok.is) (new_is (goal.at.returns-in-Ok c).After-update)
    (omega (arith, c.update.auto.out)) refl c.put-b.ensures
