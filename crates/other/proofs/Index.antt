-- Items, with one word more in front. Assumes nothing.
use Prim.Native.Nat.{ℕ}
use mathlib.Core.Path.{◌≡◌, refl}
use mathlib.Core.Bool.{Bool, true, false, cond, ◌&&◌, and_assoc}
use mathlib.Core.List.{List, ◌∷◌}
use lib.Dec.{ltb}
use Rattle.text.specs.Words.{Word, holds, before, behind, all}
use Rattle.other.specs.Rules.{Edition18, rank_in, rule_in, word_fits, more_fits}
use Rattle.other.specs.Field18.{group, items_fit, fit_from, fit_more}

pub fit_step : (ed : Edition18) (last : ℕ) (w : Word) (ws : List Word)
    → fit_from ed last (w ∷ ws)
    ≡ (holds 47 w
    && (ltb last (rank_in ed (before 47 w))
    && (word_fits (rule_in ed (rank_in ed (before 47 w))) (behind 47 w)
    && fit_more ed (rank_in ed (before 47 w)) ws)))
fit_step ed last w ws = go (holds 47 w) refl
  where
    go : (b : Bool) → holds 47 w ≡ b
        → fit_from ed last (w ∷ ws)
        ≡ (b
        && (ltb last (rank_in ed (before 47 w))
        && (word_fits (rule_in ed (rank_in ed (before 47 w))) (behind 47 w)
        && fit_more ed (rank_in ed (before 47 w)) ws)))
    go true e = rw e
    go false e = rw e

pub more_step : (ed : Edition18) (k : ℕ) (w : Word) (ws : List Word)
    → fit_more ed k (w ∷ ws) ≡ cond (holds 47 w) (fit_from ed k (w ∷ ws)) (more_fits (rule_in ed k) w && fit_more ed k ws)
more_step ed k w ws = go (holds 47 w) refl
  where
    go : (b : Bool) → holds 47 w ≡ b → fit_more ed k (w ∷ ws) ≡ cond b (fit_from ed k (w ∷ ws)) (more_fits (rule_in ed k) w && fit_more ed k ws)
    go true e = rw e
    go false e = rw e (and_assoc (more_fits (rule_in ed k) w) (all (more_fits (rule_in ed k)) (group ws).loose) (items_fit ed k (group ws).grouped))
