-- `dates::place_of` meets its contract. Assumes nothing.
use Rattle.std.proofs.Common.{rules}
use Prim.Native.Nat.{ℕ, ◌+◌, ◌<◌}
use mathlib.Core.Path.{◌≡◌, sym, ap, subst, ◌∙◌}
use mathlib.Core.List.{List}
use native.Mathlib.Omega.{arith}
use lib.ListN.{length, get_or}
use borrow.Author.Tests.{tests}
use Rattle.std.specs.Prelude.{eqb}
use Rattle.std.proofs.lemmas.List.{length_push}
use Rattle.std.specs.Slice.Iter.{split_rest, split_done, split_callee}
use Rattle.std.proofs.lemmas.Iterator.Splits.{YieldsList-from_slice_split}
use Rattle.std.proofs.lemmas.Iterator.Consumers.{YieldsList-turn, YieldsList-end}
use Rattle.text.specs.Words.{Word, split, same, elem}
use Rattle.text.proofs.Iterated.{split_listed}
use Rattle.dates.specs.Dates.{dof, keys_behind}
use Rattle.dates.proofs.Walk.{Turn, place_nothing, turn_first, turn_instead, turn_before, turn_next, word_inside}
use Rattle.dates.proofs.place_of.Goals.{In-Some}
use Rattle.dates.proofs.place_of.Goals as goal

pub returns-then-same_bytes : goal.returns-then-same_bytes
returns-then-same_bytes c =
    place_nothing c.args.s.now (sym c.same_bytes.ensures ∙ c.if-same_bytes.true)

pub loop-word-init : goal.loop-word-init
loop-word-init c =
    turn_first c.args.s.now (sym c.same_bytes.ensures ∙ c.if-same_bytes.false)

-- this turn's word is the next of the words
turn_of : (c : In-Some) → (length c.loop-word.yielded < length (split 32 c.args.s.now))
    × (c.in-Some.word.now ≡ get_or (split 32 c.args.s.now) (length c.loop-word.yielded) c.in-Some.word.now)
turn_of c =
    let s = c.args.s.now in
    let of = c.split-word-items.ensures in
    let it = c.into_iter-word-iterator.ensures.into_iter_gives in
    subst (λ (ws : List Word). (length c.loop-word.yielded < length ws) × (c.in-Some.word.now ≡ get_or ws (length c.loop-word.yielded) c.in-Some.word.now))
    (split_listed 32 s)
    (YieldsList-turn (YieldsList-from_slice_split _ (λ b. eqb b 32) s (ap split_rest it ∙ of.rest) (ap split_done it ∙ of.done)
    (ap split_callee it ∙ of.closure) (λ x b q k. search (rules, tests)))
    c.loop-word.yielded _ c.loop-word.yielded_by _ _ c.in-Some.word c.in-Some.is c.next.ensures.steps)

pub overflow_add-e : goal.overflow_add-e
overflow_add-e c =
    omega (arith, word_inside c.loop-word.invariant c.in-Some.word.now (turn_of c), c.well_formed)

pub overflow_add-at : goal.overflow_add-at
overflow_add-at c =
    omega (arith, word_inside c.loop-word.invariant c.in-Some.word.now (turn_of (goal.at.overflow_add-at c).In-Some), c.well_formed)

pub returns-then-same_bytes-2 : goal.returns-then-same_bytes-2
returns-then-same_bytes-2 c =
    turn_instead c.loop-word.invariant c.in-Some.word.now (turn_of (goal.at.returns-then-same_bytes-2 c).In-Some)
    (ap (λ (k : Word). same k dof) (sym c.key_in-key.ensures) ∙ sym c.if-same_bytes-2.ensures)

pub returns-then-is_behind : goal.returns-then-is_behind
returns-then-is_behind c =
    turn_before c.loop-word.invariant c.in-Some.word.now (turn_of (goal.at.returns-then-is_behind c).In-Some)
    (ap (λ (k : Word). same k dof) (sym c.key_in-key.ensures) ∙ sym c.if-same_bytes-2.ensures)
    (ap (λ (k : Word). elem k keys_behind) (sym c.key_in-key.ensures) ∙ sym c.if-is_behind.ensures)

pub loop-word-preserved : goal.loop-word-preserved
loop-word-preserved c =
    let n = length_push c.loop-word.yielded c.in-Some.word in
    subst (λ (n : ℕ). Turn c.args.s.now n (c.loop-word.at + length c.in-Some.word.now + 1)) (sym n)
    (turn_next c.loop-word.invariant c.in-Some.word.now (turn_of (goal.at.loop-word-preserved c).In-Some)
    (ap (λ (k : Word). same k dof) (sym c.key_in-key.ensures) ∙ sym c.if-same_bytes-2.ensures)
    (ap (λ (k : Word). elem k keys_behind) (sym c.key_in-key.ensures) ∙ sym c.if-is_behind.ensures))

pub returns : goal.returns
returns c =
    let s = c.args.s.now in
    let of = c.split-word-items.ensures in
    let it = c.into_iter-word-iterator.ensures.into_iter_gives in
    let all = YieldsList-end (YieldsList-from_slice_split _ (λ b. eqb b 32) s (ap split_rest it ∙ of.rest) (ap split_done it ∙ of.done)
    (ap split_callee it ∙ of.closure) (λ x b q k. search (rules, tests)))
    c.loop-word.yielded _ c.loop-word.yielded_by _ _ c.in-None.is c.next.ensures.steps in
    c.loop-word.invariant.none (omega (arith, all.1, ap (λ (ws : List Word). length ws) (split_listed 32 s)))
