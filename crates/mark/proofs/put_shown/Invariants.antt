-- The bytes up to i are written.
use Rattle.std.proofs.Common.{◌≡◌, ◌++◌, take, drop}
use Rattle.mark.specs.Mark.{shown_all}
use Rattle.mark.proofs.put_shown.Given as goal

abbrev pub invariant-loop-i : goal.invariant-loop-i
invariant-loop-i l = l.out ≡ take l.i (shown_all l.line) ++ drop l.i l.initial.out
