-- `codes::CodeList::fit` meets its contract. Assumes nothing.
use mathlib.Core.Path.{◌≡◌, refl, sym, ◌∙◌}
use mathlib.Core.List.{◌∷◌}
use native.Mathlib.Omega.{arith}
use lib.ListN.{length-set}
use Rattle.codes.specs.Codes.{codes}
use Rattle.codes.proofs.Pairs.{code_alone}
use Rattle.codes.proofs.Marks.{rest, rest_starts, not_listed, seen_before, marked, comes_again, comes_once}
use Rattle.codes.proofs.CodeList.fit.Goals.{In-Some}
use Rattle.codes.proofs.CodeList.fit.Goals as goal

-- the code that comes next, and those behind it
cut : (c : In-Some) → codes c.loop-w.codes.rest.now ≡ c.in-Some.w.now ∷ codes c.next.new.self.rest.now
cut c =
    c.in-Some.ensures.steps

pub loop-w-init : goal.loop-w-init
loop-w-init c =
    (refl, rest_starts _ refl _ _)

pub rank-rank-requires : goal.rank-rank-requires
rank-rank-requires c =
    code_alone c.loop-w.codes.rest.now _ _ (cut (goal.at.rank-rank-requires c).In-Some)

pub returns-then-rank-eq0 : goal.returns-then-rank-eq0
returns-then-rank-eq0 c =
    let l = c.loop-w in
    not_listed _ l.seen _ _ _ _ _ l.invariant.1 (cut (goal.at.returns-then-rank-eq0 c).In-Some) c.rank-rank.ensures c.if-rank-eq0.true

pub returns-then-seen-rank : goal.returns-then-seen-rank
returns-then-seen-rank c =
    let l = c.loop-w in
    seen_before _ l.seen _ _ _ _ _ l.invariant.1 (cut (goal.at.returns-then-seen-rank c).In-Some) c.rank-rank.ensures c.if-seen-rank.true

pub loop-w-preserved-then-rank-lt64 : goal.loop-w-preserved-then-rank-lt64
loop-w-preserved-then-rank-lt64 c =
    let l = c.loop-w in (
      length-set l.seen c.rank-rank.result _ ∙ l.invariant.0,
      marked _ l.seen _ _ _ _ _ l.invariant.1 (cut (goal.at.loop-w-preserved-then-rank-lt64 c).In-Some) c.rank-rank.ensures c.if-rank-eq0.false (omega arith)
          c.if-seen-rank.false,
    )

pub returns-then-comes : goal.returns-then-comes
returns-then-comes c =
    let l = c.loop-w in
    let e = sym c.comes.ensures ∙ c.if-comes.true in
    comes_again _ l.seen _ _ _ _ _ l.invariant.1 (cut (goal.at.returns-then-comes c).In-Some) c.rank-rank.ensures c.if-rank-eq0.false e

pub loop-w-preserved : goal.loop-w-preserved
loop-w-preserved c =
    let l = c.loop-w in
    let e = sym c.comes.ensures ∙ c.if-comes.false in (
      l.invariant.0,
      comes_once _ l.seen _ _ _ _ _ l.invariant.1 (cut (goal.at.loop-w-preserved c).In-Some) c.rank-rank.ensures c.if-rank-eq0.false (omega arith) e,
    )

pub returns : goal.returns
unfolding rest
returns c =
    sym (c.loop-w.invariant.1 ∙ rw c.in_default.ensures.steps.0)
