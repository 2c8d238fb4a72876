-- `pieces::skip_white` meets its contract. Assumes nothing.
use Rattle.std.proofs.Common.{rules, ◌+◌, ◌-◌, length, take, drop}
use Rattle.std.specs.Prelude.{not, refl}
use mathlib.Core.Path.{ap, ◌∙◌}
use borrow.Author.Tests.{tests}
use Rattle.std.proofs.lemmas.Iterator.{YieldsList-from_slice}
use Rattle.std.proofs.lemmas.Iterator.Search.{position_from_yields_List}
use Rattle.alphabet.specs.Alphabet.{white}
use Rattle.alphabet.proofs.First.{count_found}
use Rattle.text.proofs.Index.{rest}
use Rattle.pieces.specs.Pieces.{white_ahead}
use Rattle.pieces.proofs.skip_white.Goals as goal

pub returns : goal.returns
returns c =
    let a = c.args in
    let s = take (length a.s.now - a.from) (drop a.from a.s.now) in
    let found =
    position_from_yields_List (λ b. not (white b)) _ _ c.position.result c.position.ensures.ran (YieldsList-from_slice s (search rules))
    (λ x b q k. search (rules, tests)) in
    ap (λ n. a.from + n)
    ((count_found white white_ahead refl (λ b t. refl) s _ found _ c.unwrap_or.ensures).0 ∙ ap white_ahead (rest a.s.now a.from))
