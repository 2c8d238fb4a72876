-- `supplement_places::first_place` meets its contract. Assumes nothing.
use mathlib.Core.Path.{sym, ap, ap₂, ◌∙◌}
use mathlib.Core.Logic.{inl, inr}
use Rattle.places.specs.Parts.{larger}
use Rattle.supplement.specs.Field19.{keyed}
use Rattle.supplement.proofs.Steps.{no_letter}
use Rattle.supplement_places.specs.Places.{first_word_place}
use Rattle.supplement_places.proofs.PlaceIndex.{text_key}
use Rattle.supplement_places.proofs.first_place.Goals as goal

pub returns-in-69 : goal.returns-in-69
unfolding keyed
returns-in-69 c =
    rw c.in-69.is c.time_place.ensures

pub returns-in-80 : goal.returns-in-80
unfolding keyed
returns-in-80 c =
    rw c.in-80.is c.run_place.ensures

pub returns-in-82 : goal.returns-in-82
unfolding keyed
returns-in-82 c =
    rw c.in-82.is c.letters_place.ensures

pub returns-in-83 : goal.returns-in-83
unfolding keyed
returns-in-83 c =
    rw c.in-83.is c.letters_place-in-83.ensures

pub returns-in-74 : goal.returns-in-74
unfolding keyed
returns-in-74 c =
    rw c.in-74.is c.letters_place-in-74.ensures

pub returns-in-68 : goal.returns-in-68
unfolding keyed
returns-in-68 c =
    rw c.in-68.is (c.max.ensures ∙ ap₂ larger c.run_place-in-68.ensures c.front_of.ensures.0)

pub returns-in-65 : goal.returns-in-65
returns-in-65 c =
    let a = c.args in c.front_of-in-65.ensures.0 ∙ sym (text_key a.key a.w.now c.in-65.is)

pub returns-in_default : goal.returns-in_default
returns-in_default c =
    let a = c.args in
    let r = c.in_default.in_default-own.rest in
    sym (ap (λ k. first_word_place k a.w.now)
    (no_letter a.key (((r.0, λ e. r.1 (inl e)), λ e. r.1 (inr (inr e))), λ e. r.1 (inr (inl e)))))
