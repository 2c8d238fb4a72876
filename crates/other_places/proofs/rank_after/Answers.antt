-- `other_places::rank_after` meets its contract. Assumes nothing.
use mathlib.Core.Path.{◌≡◌, sym, ap, ◌∙◌}
use lib.Seq.{length-take-le}
use Prim.Native.Nat.{◌+◌, ◌-◌}
use lib.ListN.{length, take, drop}
use native.Mathlib.Omega.{arith}
use Rattle.text.proofs.Tests.{ranked_is}
use Rattle.other.specs.Stated.{stated}
use Rattle.other.specs.Rules.{rule_in, more_fits, word_fits}
use Rattle.other_places.proofs.Index.{ranked_first, ranked_more, ranked_off, ranked_early, ranked_not, ranked_key}
use Rattle.other_places.proofs.rank_after.Goals.{After-more_fits, After-word_fits}
use Rattle.other_places.proofs.rank_after.Goals as goal

more : (c : After-more_fits) → c.more_fits.result ≡ more_fits (rule_in (stated c.args.edition) c.args.k) c.args.w.now
more c =
    c.more_fits.ensures ∙ ap (λ r. more_fits r c.args.w.now) c.rule.ensures

under : (c : After-word_fits) → c.word_fits.result ≡ word_fits (rule_in (stated c.args.edition) c.in_ok-r.r)
    (take (length c.args.w.now - (c.find-o.result + 1)) (drop (c.find-o.result + 1) c.args.w.now))
under c =
    c.word_fits.ensures ∙ ap (λ r. word_fits r (take (length c.args.w.now - (c.find-o.result + 1)) (drop (c.find-o.result + 1) c.args.w.now)))
    c.rule-2.ensures

pub returns-then-k-eq0 : goal.returns-then-k-eq0
returns-then-k-eq0 c =
    ranked_first (stated c.args.edition) c.args.k c.args.w.now c.find-o.result c.find-o.ensures.value c.if-o-w.true c.if-k-eq0.true

pub returns-then-more_fits : goal.returns-then-more_fits
returns-then-more_fits c =
    ranked_more (stated c.args.edition) c.args.k c.args.w.now c.find-o.result c.find-o.ensures.value c.if-o-w.true c.if-k-eq0.false
    (sym (more (goal.at.returns-then-more_fits c).After-more_fits) ∙ c.if-more_fits.true)

pub returns-then-o-w : goal.returns-then-o-w
returns-then-o-w c =
    ranked_off (stated c.args.edition) c.args.k c.args.w.now c.find-o.result c.find-o.ensures.value c.if-o-w.true c.if-k-eq0.false
    (sym (more (goal.at.returns-then-o-w c).After-more_fits) ∙ c.if-more_fits.false)

pub slice_bounds-rank_in_cells-end : goal.slice_bounds-rank_in_cells-end
slice_bounds-rank_in_cells-end c =
    sym (length-take-le _ _ c.find-o.ensures.lower_bound.1)

pub returns-in_err-r : goal.returns-in_err-r
returns-in_err-r c =
    c.from_residual.ensures
    ∙ ranked_early (stated c.args.edition) c.args.k c.args.w.now c.find-o.result c.find-o.ensures.value c.if-o-w.false
    c.find-o.ensures.lower_bound.1 0 (sym (ranked_is _ _ c.in_err-r.ensures)) (omega arith)

pub returns-then-r-k : goal.returns-then-r-k
returns-then-r-k c =
    ranked_early (stated c.args.edition) c.args.k c.args.w.now c.find-o.result c.find-o.ensures.value c.if-o-w.false
    c.find-o.ensures.lower_bound.1
    c.in_ok-r.r (sym (ranked_is _ _ c.in_ok-r.ensures).1) c.if-r-k.true

pub returns-then-not-word_fits : goal.returns-then-not-word_fits
returns-then-not-word_fits c =
    ranked_not (stated c.args.edition) c.args.k c.args.w.now c.find-o.result c.find-o.ensures.value c.if-o-w.false
    c.find-o.ensures.lower_bound.1
    c.in_ok-r.r (sym (ranked_is _ _ c.in_ok-r.ensures).1) c.if-r-k.false (sym (under (goal.at.returns-then-not-word_fits c).After-word_fits)
    ∙ c.if-not-word_fits.true)

pub returns : goal.returns
returns c =
    ranked_key (stated c.args.edition) c.args.k c.args.w.now c.find-o.result c.find-o.ensures.value c.if-o-w.false
    c.find-o.ensures.lower_bound.1
    c.in_ok-r.r (sym (ranked_is _ _ c.in_ok-r.ensures).1) c.if-r-k.false (sym (under (goal.at.returns c).After-word_fits) ∙ c.if-not-word_fits.false)
