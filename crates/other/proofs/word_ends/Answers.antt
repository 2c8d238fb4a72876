-- `other::word_ends` meets its contract. Assumes nothing.
use borrow.Author.Rules.{rules}
use Rattle.other.proofs.Runs.{over_ends, ends_space}
use Rattle.other.proofs.word_ends.Goals as goal

pub returns-then-e-s : goal.returns-then-e-s
returns-then-e-s c =
    over_ends c.args.s.now c.args.e (search rules)

pub returns : goal.returns
returns c =
    ends_space c.args.s.now c.args.e (search rules)
