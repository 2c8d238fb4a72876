-- `places::along` meets its contract. Assumes nothing.
use mathlib.Core.Path.{◌∙◌}
use Rattle.std.proofs.Common.{rules}
use Rattle.std.proofs.lemmas.Iterator.{YieldsList-from_slice, YieldsList-from_zip}
use Rattle.std.proofs.lemmas.Iterator.Search.{YieldsList-from_take_while}
use Rattle.std.proofs.lemmas.Iterator.Consumers.{count_from_yields_List}
use Rattle.std.proofs.lemmas.List.Folds.{length-prefix_len}
use Rattle.std.specs.List.{zip}
use Prim.Native.Nat.{ℕ}
use Rattle.places.proofs.Index.{along_zipped}
use Rattle.places.proofs.along.Goals as goal

pub returns : goal.returns
returns g c m k =
    count_from_yields_List _ c.count.result c.count.ensures.ran
    (YieldsList-from_take_while _ (λ p. m p.0 p.1) (YieldsList-from_zip (YieldsList-from_slice c.args.t.now cc) (YieldsList-from_slice c.args.w.now cc))
    c.take_while.ensures.closure c.take_while.ensures.done (λ x b q j. (search rules, search (rules, k))))
    ∙ length-prefix_len (λ (p : ℕ × ℕ). m p.0 p.1) (zip c.args.t.now c.args.w.now) ∙ along_zipped m c.args.t.now c.args.w.now
