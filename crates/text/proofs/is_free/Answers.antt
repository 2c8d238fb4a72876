-- `text::is_free` meets its contract. Assumes nothing.
use Rattle.std.proofs.Common.{rules}
use Rattle.std.specs.Prelude.{refl, not, eqb, ◌&&◌}
use mathlib.Core.Path.{◌∙◌}
use Rattle.std.proofs.lemmas.Iterator.{YieldsList-from_slice}
use Rattle.std.proofs.lemmas.Iterator.Consumers.{fold_from_yields_List}
use Rattle.alphabet.proofs.Folded.{all_folded}
use Rattle.text.specs.Words.{free}
use Rattle.text.proofs.is_free.Goals as goal

pub returns : goal.returns
returns c =
    let a = c.args in
    fold_from_yields_List _ (λ fine b. fine && not (eqb b a.c)) _ c.fold.result c.fold.ensures.ran (YieldsList-from_slice a.s.now (search rules))
    (λ fine x r q k. search rules)
    ∙ all_folded (λ b. not (eqb b a.c)) (free a.c) refl (λ b s. refl) a.s.now
