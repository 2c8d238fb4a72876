use mathlib.Core.Path.{◌≡◌}
use lib.ListN.{length}
use Rattle.text.specs.Words.{cells}
use Rattle.codes.specs.Codes.{codes, codes_fit}
use Rattle.codes.proofs.Marks.{rest}
use Rattle.codes.proofs.CodeList.fit.Given as goal

abbrev pub invariant-loop-w : goal.invariant-loop-w
invariant-loop-w l = (length l.seen ≡ 64) × (codes_fit (cells 2 l.self.list.now) (codes l.s) ≡ rest l.seen (cells 2 l.self.list.now) (codes l.codes.rest.now))
