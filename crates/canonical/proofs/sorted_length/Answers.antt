-- `canonical::sorted_length` meets its contract. Assumes nothing.
use Rattle.std.proofs.Common.{rules}
use mathlib.Core.Path.{sym, ap, ◌∙◌}
use lib.ListN.{length}
use borrow.Author.Tests.{tests}
use Rattle.std.proofs.lemmas.Iterator.{YieldsList-from_slice}
use Rattle.std.proofs.lemmas.Iterator.Consumers.{YieldsList-from_filter, count_from_yields_List}
use Rattle.alphabet.specs.Alphabet.{one_of}
use Rattle.canonical.proofs.Steps.{sorted_filtered}
use Rattle.canonical.proofs.sorted_length.Goals as goal

pub returns : goal.returns
returns c =
    let s = c.args.set.now in
    let w = c.args.w.now in
    count_from_yields_List _ c.count.result c.count.ensures.ran
    (YieldsList-from_filter _ (λ b. one_of b w) (YieldsList-from_slice s (search rules)) c.filter.ensures.closure (λ x b q k. search (rules, tests)))
    ∙ sym (ap length (sorted_filtered s w))
