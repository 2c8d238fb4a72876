-- `space::place_sent` meets its contract. Assumes nothing.
use Prim.Native.Nat.{ℕ, ◌+◌}
use mathlib.Core.Path.{ap, ◌∙◌}
use lib.ListN.{drop}
use Rattle.space.specs.Places.{past_lead, sent_place}
use Rattle.space.proofs.Places.{lead_past, lead_none}
use Rattle.space.proofs.place_sent.Goals as goal

pub returns-then-h-msg : goal.returns-then-h-msg
unfolding sent_place
returns-then-h-msg c =
    let a = c.args in
    c.sent_from.ensures
    ∙ lead_past a.n a.msg.now c.place_of_hyphen-h.result c.if-h-msg.true
    ∙ ap (λ (h : ℕ). h + past_lead a.n (drop h a.msg.now)) c.place_of_hyphen-h.ensures

pub returns : goal.returns
unfolding sent_place
returns c =
    let a = c.args in
    lead_none a.n a.msg.now c.place_of_hyphen-h.result c.if-h-msg.false
    ∙ ap (λ (h : ℕ). h + past_lead a.n (drop h a.msg.now)) c.place_of_hyphen-h.ensures
