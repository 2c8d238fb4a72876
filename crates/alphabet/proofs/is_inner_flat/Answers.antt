-- `alphabet::is_inner_flat` meets its contract. Assumes nothing.
use borrow.Author.Rules.{rules}
use Rattle.alphabet.proofs.Classes.{inner_flat}
use Rattle.alphabet.proofs.is_inner_flat.Goals as goal

pub returns : goal.returns
returns c =
    inner_flat c.args.b (search rules)
