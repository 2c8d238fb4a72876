-- `alphabet::all_inner` meets its contract. Assumes nothing.
use Rattle.std.proofs.Common.{rules}
use Rattle.std.specs.Prelude.{refl, ◌&&◌}
use mathlib.Core.Path.{◌∙◌}
use Rattle.std.proofs.lemmas.Iterator.{YieldsList-from_slice}
use Rattle.std.proofs.lemmas.Iterator.Consumers.{fold_from_yields_List}
use Rattle.alphabet.specs.Alphabet.{inner_byte, all_inner}
use Rattle.alphabet.proofs.Folded.{all_folded}
use Rattle.alphabet.proofs.all_inner.Goals as goal

pub returns : goal.returns
returns c =
    let s = c.args.s.now in
    fold_from_yields_List _ (λ fine b. fine && inner_byte b) _ c.fold.result c.fold.ensures.ran (YieldsList-from_slice s (search rules))
    (λ a x b q k. search rules)
    ∙ all_folded inner_byte all_inner refl (λ b s. refl) s
