-- A test of each element, gathered with no branch: `fold` of `&` over the elements. Assumes nothing.
use Rattle.std.proofs.Common.{◌≡◌, Bool, true, List, [], ◌∷◌}
use Rattle.std.specs.Prelude.{◌&&◌}
use Rattle.std.specs.List.{fold}
use mathlib.Core.Bool.{and_assoc, and-true}
use mathlib.Core.Path.{ap, sym, ◌∙◌}

module _ {A : Type 0} (test : A → Bool) (each : List A → Bool) (none : each [] ≡ true) (step : (x : A) (s : List A) → each (x ∷ s) ≡ (test x && each s)) where
  from : (fine : Bool) (s : List A) → fold (λ fine x. fine && test x) fine s ≡ (fine && each s)
  from fine [] = sym (ap (λ t. fine && t) none ∙ and-true fine)
  from fine (x ∷ s) = from (fine && test x) s ∙ (and_assoc fine (test x) (each s) ∙ sym (ap (λ t. fine && t) (step x s)))

  pub all_folded : (s : List A) → fold (λ fine x. fine && test x) true s ≡ each s
  all_folded s = from true s
