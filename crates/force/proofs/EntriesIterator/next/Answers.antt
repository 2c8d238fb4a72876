-- `force::Entries::next` meets its contract. Assumes nothing.
use Rattle.std.proofs.Common.{length, take, ◌∷◌, arith, sym, ap, ◌∙◌}
use Rattle.force.specs.InForce.{pieces_of_rest}
use Rattle.force.proofs.Walk.{first_of_more, first_alone}
use Rattle.force.proofs.EntriesIterator.next.Goals.{then-e-text, else-e-text}
use Rattle.force.proofs.EntriesIterator.next.Goals as goal

pub returns-clause-steps : goal.returns-clause-steps
returns-clause-steps c =
    let text = c.in_ok-text.text.now in
    let e = c.find_far-e.result in
    let end = c.find_far-e.ensures.value in
    ap pieces_of_rest c.in_ok-text.was
    ∙ elim c.if-e-text.branch [
      | then-e-text w ↦ first_of_more text e end w.if-e-text.true ∙ sym (ap (λ o. take e text ∷ pieces_of_rest o) w.self-is)
      | else-e-text w ↦ first_alone text e end w.if-e-text.false ∙ sym (ap (λ o. take e text ∷ pieces_of_rest o) w.self-is)
    ]

pub returns-clause-goes : goal.returns-clause-goes
returns-clause-goes c =
    record { on = λ _. (tt, tt, omega (arith, ap length (returns-clause-steps c))); keeps = tt; rests = λ _. tt }
