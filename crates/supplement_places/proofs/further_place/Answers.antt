-- `supplement_places::further_place` meets its contract. Assumes nothing.
use mathlib.Core.Path.{refl, sym, ap, ◌∙◌}
use mathlib.Core.List.{[], ◌∷◌}
use Rattle.text.specs.Words.{leading}
use Rattle.alphabet.specs.Alphabet.{letter, text}
use Rattle.supplement.specs.declared.Stage.TheVariants.{Start, Endurance, Persons, Radio, Survival, JacketRadio, Capacity, Colours}
use Rattle.supplement.specs.declared.Stage.TheVariants.{Aircraft, Remarks, Pilot, Refused}
use Rattle.supplement.proofs.Stages.{among}
use Rattle.supplement_places.specs.Places.{further_place}
use Rattle.supplement_places.proofs.further_place.Goals as goal

pub returns-in-Lights : goal.returns-in-Lights
returns-in-Lights c =
    let a = c.args in
    c.letters_place.ensures ∙ sym (ap (λ r. further_place r a.w.now) c.in-Lights.is)

pub returns-in-Number : goal.returns-in-Number
returns-in-Number c =
    let a = c.args in
    c.run_place.ensures ∙ sym (ap (λ r. further_place r a.w.now) c.in-Number.is)

pub returns-in-Capacity : goal.returns-in-Capacity
returns-in-Capacity c =
    let a = c.args in
    c.front_of.ensures.0
    ∙ sym (among (λ r. further_place r a.w.now) (λ r. leading letter a.w.now) (Capacity ∷ (Colours ∷ [])) a.stage c.in-Capacity.in-Capacity-own.keys3 refl)

pub returns-in-Aircraft : goal.returns-in-Aircraft
returns-in-Aircraft c =
    let a = c.args in
    c.front_of-in-Aircraft.ensures.0
    ∙ sym (among (λ r. further_place r a.w.now) (λ r. leading text a.w.now) (Aircraft ∷ (Remarks ∷ (Pilot ∷ []))) a.stage c.in-Aircraft.in-Aircraft-own.keys4
    refl)

pub returns-in_default : goal.returns-in_default
returns-in_default c =
    let a = c.args in
    sym (among (λ r. further_place r a.w.now) (λ r. 0)
    (Start ∷ (Endurance ∷ (Persons ∷ (Radio ∷ (Survival ∷ (JacketRadio ∷ (Refused ∷ []))))))) a.stage c.in_default.in_default-own.keys5 refl)
