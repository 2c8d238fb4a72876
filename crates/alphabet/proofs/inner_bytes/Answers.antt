-- `alphabet::inner_bytes` meets its contract. Assumes nothing.
use Rattle.std.proofs.Common.{rules, ◌*◌, ◌≤◌, ◌≡◌, ◌+◌, ◌-◌, ◌/◌, length}
use Rattle.std.specs.Prelude.{not, cond, drop, Some, None}
use lib.Dec.{ltb}
use lib.ListN.{length-drop}
use Rattle.std.specs.List.{position_or_len}
use mathlib.Core.Path.{sym, ap, ◌∙◌}
use borrow.Author.Tests.{tests}
use native.Mathlib.Omega.{arith}
use Rattle.std.proofs.lemmas.Iterator.{YieldsList-from_slice}
use Rattle.std.proofs.lemmas.Iterator.Search.{position_from_yields_List}
use Rattle.alphabet.specs.Alphabet.{all_inner, inner_bytes}
use Rattle.alphabet.proofs.Blocks.{over_inner, over_all, place_some, place_none, inner_last, inner_rest}
use Rattle.alphabet.proofs.inner_bytes.Goals.{After-position}
use Rattle.alphabet.proofs.inner_bytes.Goals as goal

-- what `position` answers, of the blocks of the text
found : (c : After-position) → c.position.result
    ≡ cond (ltb (position_or_len (λ b. not (all_inner b)) c.as_chunks.result.0.now) (length c.as_chunks.result.0.now))
    (Some (position_or_len (λ b. not (all_inner b)) c.as_chunks.result.0.now)) None
found c =
    position_from_yields_List (λ b. not (all_inner b)) _ _ c.position.result c.position.ensures.ran
    (YieldsList-from_slice c.as_chunks.result.0.now (search rules))
    (λ x b q k. search (rules, tests))

-- where none fails, all is counted that the blocks hold
over : (c : After-position) → c.position.result ≡ None → (16 * length c.as_chunks.result.0.now ≤ length c.args.s.now)
    × (16 * length c.as_chunks.result.0.now + inner_bytes (drop (16 * length c.as_chunks.result.0.now) c.args.s.now) ≡ inner_bytes c.args.s.now)
over c e =
    let bs = c.as_chunks.result.0.now in
    let p = place_none (λ b. not (all_inner b)) bs _ (found c) e in
    let o = over_all inner_bytes all_inner (over_inner 16) c.args.s.now bs c.as_chunks.ensures.front in
    (rw p at o.0, sym (rw p at o.1))

pub returns-in-Some : goal.returns-in-Some
returns-in-Some c =
    let s = c.args.s.now in
    let bs = c.as_chunks.result.0.now in
    let p = place_some (λ b. not (all_inner b)) bs _ (found (goal.at.returns-in-Some c).After-position) _ c.in-Some.is in
    let o = over_all inner_bytes all_inner (over_inner 16) s bs c.as_chunks.ensures.front in
    inner_rest s (16 * c.in-Some.k) _ (rw p o.0) (rw p (sym o.1)) c.inner_each.ensures

pub returns-then-all_inner : goal.returns-then-all_inner
returns-then-all_inner c =
    let s = c.args.s.now in
    let o = over (goal.at.returns-then-all_inner c).After-position c.in_default.is in
    let l = length c.as_chunks.result.0.now in
    let n : l ≡ length s / 16 = c.as_chunks.ensures.front_len in
    let h = sym c.all_inner.ensures ∙ c.if-all_inner.true in
    (sym (inner_last s (16 * l) (length s - 16) (omega arith) o.0 h) ∙ o.1, omega arith)

pub returns : goal.returns
returns c =
    let o = over (goal.at.returns c).After-position c.in_default.is in
    let l = length c.as_chunks.result.0.now in
    let n : 16 * l ≡ length c.args.s.now / 16 * 16 = omega (arith, c.as_chunks.ensures.front_len) in
    let k : length c.as_chunks.result.1.now ≡ length (drop (16 * l) c.args.s.now) = rw n (ap length c.as_chunks.ensures.back) in
    let e = c.inner_each-2.ensures in
    let i : c.inner_each-2.result ≡ inner_bytes (drop (16 * l) c.args.s.now) = rw n (e.0 ∙ ap inner_bytes c.as_chunks.ensures.back) in
    (omega (arith, i, o.1), omega (arith, e.1, k, length-drop (16 * l) c.args.s.now, o.0))
