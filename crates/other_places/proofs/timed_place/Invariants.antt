use Rattle.std.proofs.Common.{◌≡◌}
use Rattle.other_places.specs.Places.{signs_time}
use Rattle.other_places.proofs.timed_place.Given as goal

abbrev pub invariant-loop-n : goal.invariant-loop-n
invariant-loop-n l = l.best ≡ signs_time l.n l.w
