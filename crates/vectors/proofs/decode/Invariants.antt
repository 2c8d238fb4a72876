-- What a text stands for takes no more bytes than the text.
use Rattle.std.proofs.Common.{◌-◌, ◌≤◌}
use Rattle.vectors.proofs.decode.Given as goal

abbrev pub invariant-loop-i : goal.invariant-loop-i
invariant-loop-i l = (l.from ≤ l.e) × (l.e ≤ l.i)

abbrev pub decreases-loop-i : goal.decreases-loop-i
decreases-loop-i l = l.n - l.i
