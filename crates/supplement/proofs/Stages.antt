-- The stages that an arm of a `match` names, told apart by their numbers. Assumes nothing.
use Prim.Native.Nat.{ℕ}
use mathlib.Core.Path.{◌≡◌, refl, sym, ap, ◌∙◌}
use mathlib.Core.List.{List, [], ◌∷◌}
use mathlib.Core.Logic.{⊎_elim}
use lib.ListN.{get_or}
use denote.Enum.Declared.{tag_of}
use types.Run.{OneOf}
use Rattle.supplement.specs.declared.Stage.{Stage}
use Rattle.supplement.specs.declared.Stage.TheVariants.{Start, Endurance, Persons, Radio, Survival, Lights, JacketRadio, Number, Capacity, Colours}
use Rattle.supplement.specs.declared.Stage.TheVariants.{Aircraft, Remarks, Pilot, Refused}
use Rattle.supplement.specs.contracts.Stage.{the_type}

abbrev stages : List Stage
stages =
    Start ∷ (Endurance ∷ (Persons ∷ (Radio ∷ (Survival ∷ (Lights ∷ (JacketRadio
    ∷ (Number ∷ (Capacity ∷ (Colours ∷ (Aircraft ∷ (Remarks ∷ (Pilot ∷ []))))))))))))

abbrev stage_at : ℕ → Stage
stage_at k = get_or stages k Refused

abbrev pub number : Stage → ℕ
number stage = tag_of the_type stage

numbered : (stage : Stage) → stage_at (number stage) ≡ stage
numbered Start = refl
numbered Endurance = refl
numbered Persons = refl
numbered Radio = refl
numbered Survival = refl
numbered Lights = refl
numbered JacketRadio = refl
numbered Number = refl
numbered Capacity = refl
numbered Colours = refl
numbered Aircraft = refl
numbered Remarks = refl
numbered Pilot = refl
numbered Refused = refl

alike : (s stage : Stage) → number stage ≡ number s → stage ≡ s
alike s stage e = sym (numbered stage) ∙ ap stage_at e ∙ numbered s

-- THE STAGES OF AN ARM: where f and g agree at each of them, they agree at the stage that is one of them

abbrev pub each : {A : Type 0} → (Stage → A) → List Stage → List A
each f [] = []
each f (s ∷ ss) = f s ∷ each f ss

pub among : {A : Type 0} (f g : Stage → A) (ss : List Stage) (stage : Stage) → OneOf (each number ss) (number stage)
    → each f ss ≡ each g ss → f stage ≡ g stage
among f g [] stage o e = absurd o
among f g (s ∷ []) stage o e = let h : f s ≡ g s = cc in rw (alike s stage o) h
among f g (s ∷ (r ∷ ss)) stage o e =
    let h : f s ≡ g s = cc in
    let k : each f (r ∷ ss) ≡ each g (r ∷ ss) = cc in
    ⊎_elim (λ q. rw (alike s stage q) h) (λ q. among f g (r ∷ ss) stage q k) o
