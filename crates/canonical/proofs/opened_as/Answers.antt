-- `canonical::opened_as` meets its contract. Assumes nothing.
use Prim.Native.Nat.{ℕ}
use mathlib.Core.Bool.{Bool, cond}
use mathlib.Core.Path.{◌≡◌, refl, ap, ◌∙◌}
use Rattle.text.specs.Words.{text_word}
use Rattle.shape.specs.Time.{elapsed_fits}
use Rattle.supplement.specs.declared.Stage.{Stage}
use Rattle.supplement.specs.declared.Stage.TheVariants.{Endurance, Persons, Radio, Survival, Lights, Aircraft, Remarks, Pilot, Refused}
use Rattle.supplement.specs.Field19.{keyed, by_letter, count, some_of, persons_digits, radio_letters, survival_letters, light_letters}
use Rattle.supplement.specs.Walk.{first}
use Rattle.supplement.proofs.Steps.{no_letter}
use Rattle.canonical.proofs.Fitting.{passed}
use Rattle.canonical.proofs.opened_as.Goals.{After-shared_slice_known-1}
use Rattle.canonical.proofs.opened_as.Goals as goal

decides : (c : After-shared_slice_known-1) → (k : ℕ) (b : Bool) (stage : Stage) → c.args.key ≡ k → first (by_letter k) c.args.w.now ≡ cond b stage Refused
    → stage ≡ first (by_letter c.args.key) c.args.w.now
decides c k b stage e f =
    passed _ b stage (ap (λ (x : ℕ). first (by_letter x) c.args.w.now) e ∙ f) c.requires

pub returns-in-69 : goal.returns-in-69
unfolding keyed
returns-in-69 c =
    decides (goal.at.returns-in-69 c).After-shared_slice_known-1 69 (elapsed_fits c.args.w.now) Endurance c.in-69.is refl

pub returns-in-80 : goal.returns-in-80
unfolding keyed
returns-in-80 c =
    decides (goal.at.returns-in-80 c).After-shared_slice_known-1 80 (count persons_digits c.args.w.now) Persons c.in-80.is refl

pub returns-in-82 : goal.returns-in-82
unfolding keyed
returns-in-82 c =
    decides (goal.at.returns-in-82 c).After-shared_slice_known-1 82 (some_of radio_letters c.args.w.now) Radio c.in-82.is refl

pub returns-in-83 : goal.returns-in-83
unfolding keyed
returns-in-83 c =
    decides (goal.at.returns-in-83 c).After-shared_slice_known-1 83 (some_of survival_letters c.args.w.now) Survival c.in-83.is refl

pub returns-in-74 : goal.returns-in-74
unfolding keyed
returns-in-74 c =
    decides (goal.at.returns-in-74 c).After-shared_slice_known-1 74 (some_of light_letters c.args.w.now) Lights c.in-74.is refl

pub returns-in-68 : goal.returns-in-68
unfolding keyed
returns-in-68 c =
    rw c.in-68.is c.first_of_dinghies.ensures

pub returns-in-65 : goal.returns-in-65
unfolding keyed
returns-in-65 c =
    decides (goal.at.returns-in-65 c).After-shared_slice_known-1 65 (text_word c.args.w.now) Aircraft c.in-65.is refl

pub returns-in-78 : goal.returns-in-78
unfolding keyed
returns-in-78 c =
    decides (goal.at.returns-in-78 c).After-shared_slice_known-1 78 (text_word c.args.w.now) Remarks c.in-78.is refl

pub returns-in-67 : goal.returns-in-67
unfolding keyed
returns-in-67 c =
    decides (goal.at.returns-in-67 c).After-shared_slice_known-1 67 (text_word c.args.w.now) Pilot c.in-67.is refl

pub returns-in_default : goal.returns-in_default
returns-in_default c =
    rw (no_letter c.args.key c.in_default.in_default-own.rest)
