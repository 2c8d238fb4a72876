use Rattle.std.proofs.Common.{◌≡◌, ◌≤◌, ℕ, Bool, Option, length, drop, ◌+◌, ◌-◌}
use Rattle.text.specs.Words.{Word, split}
use Rattle.places.specs.Words.{form, words_place}
use Rattle.places.proofs.words_place.Given as goal

abbrev pub invariant-loop-place : goal.invariant-loop-place
invariant-loop-place g l =
    goal.A-IsAlwaysCallable g l.after
    × goal.G-IsAlwaysCallable g l.goes
    × goal.P-IsAlwaysCallable g l.place
    × (l.at ≤ length l.s)
    × ((a : g.row.K.Denot → Word → Option g.row.K.Denot) (f h : g.row.K.Denot → Bool) (p : g.row.K.Denot → Word → ℕ)
    → ((k : _) (w : _) (r : _) → goal.A-post g l.after k w r → r ≡ a k w.now)
    → ((k : _) (r : Bool) → goal.G-post g l.goes k r → r ≡ h k)
    → ((k : _) (w : _) (r : ℕ) → goal.P-post g l.place k w r → r ≡ p k w.now)
    → words_place (form _ a f h) p l.fn.start (split 32 l.s) ≡ l.at + words_place (form _ a f h) p l.known (split 32 (drop l.at l.s)))

abbrev pub decreases-loop-place : goal.decreases-loop-place
decreases-loop-place g l = length l.s - l.at
