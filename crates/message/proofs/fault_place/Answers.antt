-- `message::fault_place` meets its contract. Assumes nothing.
use Prim.Native.Nat.{ℕ}
use mathlib.Core.Path.{ap, ◌∙◌}
use borrow.Author.Tests.{eq-eqb, ne_eqb}
use Rattle.space.specs.Places.{sent_place}
use Rattle.message.proofs.fault_place.Goals as goal

pub returns-then-number-ne7 : goal.returns-then-number-ne7
returns-then-number-ne7 c =
    rw (ne_eqb c.args.number 7 c.if-number-ne7.true) c.place_of_hyphen.ensures

pub returns : goal.returns
returns c =
    rw (eq-eqb c.args.number 7 c.if-number-ne7.false)
    (c.place_sent.ensures ∙ ap (λ (n : ℕ). sent_place c.args.j n c.args.msg.now) c.place_in.ensures)
