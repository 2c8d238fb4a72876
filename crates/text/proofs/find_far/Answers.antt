-- `text::find_far` meets its contract. Assumes nothing.
use Rattle.std.proofs.Common.{rules, ◌*◌}
use Rattle.std.specs.Prelude.{not, drop}
use mathlib.Core.Path.{ap}
use lib.Seq.{drop-drop}
use borrow.Author.Tests.{tests}
use native.Mathlib.Omega.{arith}
use Rattle.std.proofs.lemmas.Iterator.{YieldsList-from_slice}
use Rattle.std.proofs.lemmas.Iterator.Search.{position_from_yields_List}
use Rattle.alphabet.proofs.Blocks.{over_all, place_or}
use Rattle.text.specs.Words.{up_to, free}
use Rattle.text.proofs.Index.{over_free, rest}
use Rattle.text.proofs.find_far.Goals as goal

pub returns-clause-value : goal.returns-clause-value
returns-clause-value c =
    let a = c.args in
    let s = drop a.from a.s.now in
    let bs = c.as_chunks.result.0.now in
    let found = position_from_yields_List (λ b. not (free a.c b)) _ _ c.position.result c.position.ensures.ran (YieldsList-from_slice bs (search rules))
    (λ x b q k. search (rules, tests)) in
    let p = place_or (λ b. not (free a.c b)) bs _ found _ c.unwrap_or-free.ensures in
    let o = over_all (up_to a.c) (free a.c) (over_free a.c 16) s bs (rw (rest a.s.now a.from) at c.as_chunks.ensures.front) in
    let d = drop-drop (16 * c.unwrap_or-free.result) a.from a.s.now in
    omega (arith, c.find.ensures.value, rw (← p) at o.1, ap (up_to a.c) d)
