-- `racks::Board::strip_in` meets its contract. Assumes nothing.
use Prim.Native.Nat.{ℕ, ◌+◌}
use mathlib.Core.Path.{ap, ◌∙◌}
use Rattle.racks.proofs.Slots.{shows_none, shows_strip}
use Rattle.racks.proofs.Board.strip_in.Goals as goal

pub returns-in-None : goal.returns-in-None
returns-in-None c =
    let a = c.args in
    c.no_strip.ensures ∙ shows_none a.f a.slot a.self.places a.bytes.now _ c.held_in.ensures c.in-None.is

pub returns-in-Some : goal.returns-in-Some
returns-in-Some c =
    let a = c.args in
    c.part_of.ensures
    ∙ shows_strip a.f a.slot a.self.places a.bytes.now _ _ _ c.held_in.ensures c.in-Some.is (ap (λ (i : ℕ). i + a.slot) c.base_of.ensures)
