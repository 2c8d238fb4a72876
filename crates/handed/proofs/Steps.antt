-- A state that is handed in as numbers, and its row of numbers. Assumes nothing.
use Prim.Native.Nat.{ℕ}
use mathlib.Core.Path.{◌≡◌, sym, ap, ◌∙◌}
use mathlib.Core.Bool.{Bool, true, false, not}
use mathlib.Core.List.{List, [], ◌∷◌}
use lib.ListN.{get_or}
use borrow.Author.Tests.{not-true, not-false}
use Rattle.std.specs.Prelude.{None, Some}
use Rattle.std.specs.Str.{bytes_eq}
use Rattle.text.specs.Words.{same}
use Rattle.text.proofs.Iterated.{same_listed}
use Rattle.state.specs.declared.State.{State}
use Rattle.state.specs.declared.State.TheVariants.{Filed, Departed, Arrived, Cancelled}
use Rattle.handed.specs.States.{state_of, state_numbers, handed_as}

-- HANDING IN: s is the state that the numbers mean, xs its own numbers, and b whether they differ

module _ (ns xs : List ℕ) (s : State) (b : Bool) (es : s ≡ state_of ns) (ex : xs ≡ state_numbers s) (eb : b ≡ not (bytes_eq xs ns)) where
  found : same (state_numbers (state_of ns)) ns ≡ bytes_eq xs ns
  found = ap (λ (t : State). same (state_numbers t) ns) (sym es) ∙ ap (λ (l : List ℕ). same l ns) (sym ex) ∙ sym (same_listed xs ns)

  pub none_handed : b ≡ true → None ≡ handed_as ns
  unfolding handed_as
  none_handed e = rw (found ∙ not-true _ (sym eb ∙ e))

  pub one_handed : b ≡ false → Some (record { state = s }) ≡ handed_as ns
  unfolding handed_as
  one_handed e = rw (found ∙ not-false _ (sym eb ∙ e)) (ap (λ (t : State). Some (record { state = t })) es)

-- A STATE, by the row of its numbers

pub state_laid : (s : State) (ns : List ℕ) → ns ≡ state_numbers s
    → get_or ns 0 0 ∷ (get_or ns 1 0 ∷ (get_or ns 2 0 ∷ (get_or ns 3 0 ∷ (get_or ns 4 0 ∷ (get_or ns 5 0 ∷ (get_or ns 6 0 ∷ (get_or ns 7 0 ∷ [])))))))
    ≡ state_numbers s
state_laid Filed ns e = rw e
state_laid (Departed t) ns e = rw e
state_laid (Arrived (Some d) a t) ns e = rw e
state_laid (Arrived None a t) ns e = rw e
state_laid Cancelled ns e = rw e
