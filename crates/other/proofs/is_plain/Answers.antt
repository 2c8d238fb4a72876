-- `other::is_plain` meets its contract. Assumes nothing.
use borrow.Author.Rules.{rules}
use Rattle.other.proofs.Plain.{plain_is}
use Rattle.other.proofs.is_plain.Goals as goal

pub returns : goal.returns
returns c =
    plain_is c.args.b c.args.c (search rules)
