use Prim.Native.Nat.{◌-◌, ◌≤◌}
use mathlib.Core.Path.{◌≡◌}
use lib.ListN.{length, drop}
use Rattle.space.specs.Hyphens.{behind_hyphen}
use Rattle.message.proofs.onward.Given as goal

abbrev pub invariant-loop : goal.invariant-loop
invariant-loop l =
    (l.c.at ≤ length l.s) × (behind_hyphen (l.n - l.counter) (drop l.c.at l.s) ≡ behind_hyphen l.n (drop l.initial.c.at l.s))
