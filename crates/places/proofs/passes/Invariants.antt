use Rattle.std.proofs.Common.{Bool, ◌≡◌, ◌+◌, take, drop, []}
use Rattle.text.specs.Words.{Word}
use Rattle.places.specs.Parts.{passes}
use Rattle.places.proofs.passes.Given as goal

abbrev pub invariant-loop-i : goal.invariant-loop-i
invariant-loop-i g l =
    goal.F-IsAlwaysCallable g l.test
    × ((v : Word → Bool) → ((p : _) (r : Bool) → goal.F-post g l.test p r → r ≡ v p.now)
    → passes v [] l.w ≡ l.i + passes v (take l.i l.w) (drop l.i l.w))
