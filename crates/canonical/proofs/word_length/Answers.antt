-- `canonical::word_length` meets its contract. Assumes nothing.
use Rattle.std.proofs.Common.{rules}
use Prim.Native.Nat.{ℕ, ◌+◌}
use mathlib.Core.Path.{◌≡◌, ap, ◌∙◌}
use mathlib.Core.List.{List}
use native.Mathlib.Omega.{arith}
use lib.Dec.{eqb, ltb}
use mathlib.Core.Bool.{cond}
use Rattle.std.specs.Prelude.{Some, None}
use Rattle.std.specs.List.{position_or_len}
use lib.ListN.{length, drop, length-drop}
use borrow.Author.Tests.{tests}
use Rattle.std.proofs.lemmas.Iterator.{YieldsList-from_slice}
use Rattle.std.proofs.lemmas.Iterator.Search.{position_from_yields_List}
use Rattle.text.proofs.Index.{rest}
use Rattle.canonical.specs.Rewriting.{changed}
use Rattle.canonical.proofs.Steps.{oblique_some, oblique_none, changed_shorter, rewrite_length, rewrite_shorter}
use Rattle.canonical.proofs.word_length.Goals.{After-position}
use Rattle.canonical.proofs.word_length.Goals as goal

-- the first oblique is looked for
located : (c : After-position) → c.position.result
    ≡ cond (ltb (position_or_len (λ b. eqb b 47) c.args.w.now) (length c.args.w.now)) (Some (position_or_len (λ b. eqb b 47) c.args.w.now)) None
located c =
    position_from_yields_List (λ b. eqb b 47) _ _ c.position.result c.position.ensures.ran (YieldsList-from_slice c.args.w.now (search rules))
    (λ x b q k. search (rules, tests))

pub overflow_add-result-in-Some : goal.overflow_add-result-in-Some
overflow_add-result-in-Some c =
    let w = c.args.w.now in
    let o = c.in-Some.o in
    let at = oblique_some w c.position.result (located (goal.at.overflow_add-result-in-Some c).After-position) o c.in-Some.is in
    let n = c.changed_length.ensures ∙ ap (λ (v : List ℕ). length (changed c.args.stage v)) (rest w (o + 1)) in
    omega (arith, n, at.1, changed_shorter c.args.stage (drop (o + 1) w), length-drop (o + 1) w)

pub returns-in-Some : goal.returns-in-Some
returns-in-Some c =
    let w = c.args.w.now in
    let o = c.in-Some.o in
    let at = oblique_some w c.position.result (located (goal.at.returns-in-Some c).After-position) o c.in-Some.is in
    let n = c.changed_length.ensures ∙ ap (λ (v : List ℕ). length (changed c.args.stage v)) (rest w (o + 1)) in
    let l = rewrite_length c.args.stage w (o + 1) at.0 (omega (arith, at.1)) in
    (omega (arith, n, l), omega (arith, n, l, rewrite_shorter c.args.stage w (o + 1) at.0 (omega (arith, at.1))))

pub returns-in-None : goal.returns-in-None
returns-in-None c =
    let w = c.args.w.now in
    let n = c.changed_length-in-None.ensures in
    let none = oblique_none w c.position.result (located (goal.at.returns-in-None c).After-position) c.in-None.is in
    let l = rewrite_length c.args.stage w 0 none (omega arith) in
    (omega (arith, n, l), omega (arith, n, l, rewrite_shorter c.args.stage w 0 none (omega arith)))
