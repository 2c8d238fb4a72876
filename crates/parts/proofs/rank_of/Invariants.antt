use Prim.Native.Nat.{◌+◌}
use mathlib.Core.Path.{◌≡◌}
use mathlib.Core.List.{map}
use lib.ListN.{drop}
use Rattle.text.specs.Words.{up_to}
use Rattle.kinds.specs.Kinds.{forms_of, number_of}
use Rattle.parts.proofs.rank_of.Given as goal

abbrev pub invariant-loop-j : goal.invariant-loop-j
invariant-loop-j l =
    up_to l.number (map number_of (forms_of l.t l.count)) ≡ l.j + up_to l.number (drop l.j (map number_of (forms_of l.t l.count)))
