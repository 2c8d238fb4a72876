use mathlib.Core.Path.{◌≡◌, refl, sym, ap, ◌∙◌}
use mathlib.Core.Bool.{Bool, true, false, ◌&&◌}
use native.Mathlib.Omega.{arith}
use lib.Dec.{ltb}
use borrow.Author.Tests.{lt-ltb, eqb-true}
use Rattle.alphabet.specs.Alphabet.{text}
use Rattle.text.specs.Words.{split, after, all}
use Rattle.text.proofs.Index.{after_here, after_end}
use Rattle.other.specs.declared.Rule.{Rule}
use Rattle.other.specs.Stated.{stated}
use Rattle.other.specs.Rules.{rank_in, rule_in, word_fits, more_fits}
use Rattle.other.specs.Field18.{fit_from, fit_more}
use Rattle.other.proofs.Runs.{run_all, not_over_lem, item_late, item_odd, item_word, more_word, more_from, more_other}
use Rattle.other.proofs.Ranks.{signs_only, not_later, later}
use Rattle.other.proofs.Plain.{more_over}
use borrow.Author.Rules.{rules}
use Prim.Native.Nat.{◌+◌, ◌-◌, ◌<◌, ◌≤◌}
use lib.ListN.{length, take, drop, get_or}
use Rattle.other.proofs.Edition.+item_words.Goals as goal

pub item-returns-in_default : goal.item-returns-in_default
item-returns-in_default t c =
    let a = c.args in
    let p = c.requires in
    let ed = (stated c.args.self) in
    let b = c.rank_behind in
    sym
    (item_late c.args.s.now a.at a.o p.0 p.1 p.2 p.3 ed a.last
    (rank_in ed (take (c.args.o - c.args.at) (drop c.args.at c.args.s.now))) refl
    (not_later ed c.args.self.sound a.last (take (c.args.o - c.args.at) (drop c.args.at c.args.s.now)) b.result b.ensures c.in_default.is))

pub item-returns-then-not-word_ends : goal.item-returns-then-not-word_ends
item-returns-then-not-word_ends t c =
    let item-ranked : (c.in-Some.k ≡ rank_in (stated c.args.self)
    (take (c.args.o - c.args.at) (drop c.args.at c.args.s.now))) × (c.args.last < c.in-Some.k) = let a = c.args in
    let b = c.rank_behind in
    later (stated c.args.self) c.args.self.sound a.last (take (c.args.o - c.args.at) (drop c.args.at c.args.s.now))
    b.result b.ensures c.in-Some.k c.in-Some.is in
    let item_none : c.word_ends.result ≡ false
    → (fit_from (stated c.args.self) c.args.last (split 32 (drop c.args.at c.args.s.now))) ≡ false = λ n. let a =
    c.args in
    let p = c.requires in
    let f = c.end_of-e.ensures in
    item_odd a.s.now a.at a.o p.0 p.1 p.2 p.3 (stated c.args.self) a.last c.in-Some.k
    item-ranked.0 c.end_of-e.result f.value f.lower_bound.1 (sym c.word_ends.ensures ∙ n) in sym (item_none (c.if-not-word_ends.true))

pub item-text_fits-requires : goal.item-text_fits-requires
item-text_fits-requires t c =
    run_all text c.args.s.now (c.args.o + 1) c.end_of-e.result c.end_of-e.ensures.value

pub item-returns-then-not-text_fits : goal.item-returns-then-not-text_fits
item-returns-then-not-text_fits t c =
    let item-ranked : (c.in-Some.k ≡ rank_in (stated c.args.self)
    (take (c.args.o - c.args.at) (drop c.args.at c.args.s.now))) × (c.args.last < c.in-Some.k) = let a = c.args in
    let b = c.rank_behind in
    later (stated c.args.self) c.args.self.sound a.last (take (c.args.o - c.args.at) (drop c.args.at c.args.s.now))
    b.result b.ensures c.in-Some.k c.in-Some.is in
    let item-parts : c.word_ends.result ≡ true
    → (fit_from (stated c.args.self) c.args.last (split 32 (drop c.args.at c.args.s.now)))
    ≡ (ltb c.args.last c.in-Some.k
    && (word_fits (rule_in (stated c.args.self) c.in-Some.k)
    ((take (c.end_of-e.result - ((c.args.o + 1))) (drop ((c.args.o + 1)) c.args.s.now)))
    && fit_more (stated c.args.self) c.in-Some.k (after 32 (drop c.end_of-e.result c.args.s.now)))) = λ q. let a =
    c.args in
    let p = c.requires in
    let f = c.end_of-e.ensures in
    item_word a.s.now a.at a.o p.0 p.1 p.2 p.3 (stated c.args.self) a.last
    c.in-Some.k
    item-ranked.0 c.end_of-e.result f.value f.lower_bound.1 (sym c.word_ends.ensures ∙ q) in
    let e : word_fits c.rule.result (take (c.end_of-e.result - ((c.args.o + 1))) (drop ((c.args.o + 1)) c.args.s.now)) ≡ false = sym c.text_fits.ensures
    ∙ c.if-not-text_fits.true in
    rw (item-parts (c.if-not-word_ends.false), lt-ltb _ _ item-ranked.1, ← c.rule.ensures, e)

pub item-words-requires : goal.item-words-requires
item-words-requires t c =
    let p = c.requires in
    let f = c.end_of-e.ensures.lower_bound in
    let z = eqb-true _ _ (sym c.word_ends.ensures ∙ c.if-not-word_ends.false) in
    (omega (arith, p.0, p.1, f), (search rules, z))

pub item-returns : goal.item-returns
item-returns t c =
    let item-ranked : (c.in-Some.k ≡ rank_in (stated c.args.self)
    (take (c.args.o - c.args.at) (drop c.args.at c.args.s.now))) × (c.args.last < c.in-Some.k) = let a = c.args in
    let b = c.rank_behind in
    later (stated c.args.self) c.args.self.sound a.last (take (c.args.o - c.args.at) (drop c.args.at c.args.s.now))
    b.result b.ensures c.in-Some.k c.in-Some.is in
    let item-parts : c.word_ends.result ≡ true
    → (fit_from (stated c.args.self) c.args.last (split 32 (drop c.args.at c.args.s.now)))
    ≡ (ltb c.args.last c.in-Some.k
    && (word_fits (rule_in (stated c.args.self) c.in-Some.k)
    ((take (c.end_of-e.result - ((c.args.o + 1))) (drop ((c.args.o + 1)) c.args.s.now)))
    && fit_more (stated c.args.self) c.in-Some.k (after 32 (drop c.end_of-e.result c.args.s.now)))) = λ q. let a =
    c.args in
    let p = c.requires in
    let f = c.end_of-e.ensures in
    item_word a.s.now a.at a.o p.0 p.1 p.2 p.3 (stated c.args.self) a.last
    c.in-Some.k
    item-ranked.0 c.end_of-e.result f.value f.lower_bound.1 (sym c.word_ends.ensures ∙ q) in
    let e : word_fits c.rule.result (take (c.end_of-e.result - ((c.args.o + 1))) (drop ((c.args.o + 1)) c.args.s.now)) ≡ true = sym c.text_fits.ensures
    ∙ c.if-not-text_fits.false in
    rw (item-parts (c.if-not-word_ends.false), lt-ltb _ _ item-ranked.1, ← c.rule.ensures, e, c.rule.ensures)
    c.words.ensures

pub words-past_free-e-requires : goal.words-past_free-e-requires
words-past_free-e-requires t c =
    c.requires

pub words-loop-e-init : goal.words-loop-e-init
words-loop-e-init t c =
    let a = c.args in
    let p = c.past_free-e in
    let ed = stated a.self in
    let passed : Rule → Bool = λ x. all (more_fits x) (after 32 (take (p.result - a.end) (drop a.end a.s.now))) in
    let f = sym (ap passed c.rule-rule.ensures) ∙ p.ensures.s_value in
    (p.ensures.lower_bound.0, p.ensures.lower_bound.1, more_over a.s.now a.end p.result ed a.k p.ensures.lower_bound.0 p.ensures.lower_bound.2 f)

pub words-bounds-s-e : goal.words-bounds-s-e
words-bounds-s-e t c =
    let words-most : c.end_of-e.result ≤ length c.args.s.now = c.end_of-e.ensures.lower_bound.1 in
    let words_inside : c.word_ends.result ≡ false → c.end_of-e.result < length c.args.s.now = λ n. not_over_lem c.args.s.now c.end_of-e.result words-most
    (sym c.word_ends.ensures ∙ n) in words_inside (c.if-not-word_ends.true)

pub words-returns-then-s-e-ne47 : goal.words-returns-then-s-e-ne47
words-returns-then-s-e-ne47 t c =
    let words-reached : ((fit_more (stated c.args.self) c.args.k (after 32 (drop c.args.end c.args.s.now))))
    ≡ fit_more (stated c.args.self) c.args.k (split 32 (drop ((c.loop-e.e + 1)) c.args.s.now)) = let l = c.loop-e in
    l.invariant.2 ∙ ap (fit_more (stated c.args.self) c.args.k) (after_here 32 c.args.s.now l.e c.loop-e-test.true) in
    let words-most : c.end_of-e.result ≤ length c.args.s.now = c.end_of-e.ensures.lower_bound.1 in
    let words-none : c.word_ends.result ≡ false → (get_or c.args.s.now c.end_of-e.result 0 ≡ 47 → ⊥)
    → ((fit_more (stated c.args.self) c.args.k (after 32 (drop c.args.end c.args.s.now)))) ≡ false = λ n b. words-reached
    ∙ more_other c.args.s.now ((c.loop-e.e + 1)) c.end_of-e.result c.end_of-e.ensures.value words-most (stated c.args.self)
    c.args.k (sym c.word_ends.ensures ∙ n)
    (signs_only (stated c.args.self) c.args.self.sound) b in
    sym (words-none (c.if-not-word_ends.true) c.if-s-e-ne47.true)

pub words-item-requires : goal.words-item-requires
words-item-requires t c =
    let words-most : c.end_of-e.result ≤ length c.args.s.now = c.end_of-e.ensures.lower_bound.1 in
    let words_inside : c.word_ends.result ≡ false → c.end_of-e.result < length c.args.s.now = λ n. not_over_lem c.args.s.now c.end_of-e.result words-most
    (sym c.word_ends.ensures ∙ n) in
    let run = run_all text c.args.s.now (c.loop-e.e + 1) c.end_of-e.result c.end_of-e.ensures.value in
    let p = c.requires in
    let within = words_inside (c.if-not-word_ends.true) in
    (omega (arith, c.loop-e.invariant.0, c.loop-e-test.true), (search rules, within, c.if-s-e-ne47.false, run))

pub words-returns-then-not-word_ends : goal.words-returns-then-not-word_ends
words-returns-then-not-word_ends t c =
    let words-reached : ((fit_more (stated c.args.self) c.args.k (after 32 (drop c.args.end c.args.s.now))))
    ≡ fit_more (stated c.args.self) c.args.k (split 32 (drop ((c.loop-e.e + 1)) c.args.s.now)) = let l = c.loop-e in
    l.invariant.2 ∙ ap (fit_more (stated c.args.self) c.args.k) (after_here 32 c.args.s.now l.e c.loop-e-test.true) in
    let words-most : c.end_of-e.result ≤ length c.args.s.now = c.end_of-e.ensures.lower_bound.1 in
    let words_item : c.word_ends.result ≡ false → get_or c.args.s.now c.end_of-e.result 0 ≡ 47
    → ((fit_more (stated c.args.self) c.args.k (after 32 (drop c.args.end c.args.s.now))))
    ≡ fit_from (stated c.args.self) c.args.k (split 32 (drop ((c.loop-e.e + 1)) c.args.s.now)) = λ n b. words-reached
    ∙ more_from c.args.s.now ((c.loop-e.e + 1)) c.end_of-e.result c.end_of-e.ensures.value words-most (stated c.args.self)
    c.args.k (sym c.word_ends.ensures ∙ n) b in c.item.ensures ∙ sym (words_item (c.if-not-word_ends.true) c.if-s-e-ne47.false)

pub words-returns-then-is_single : goal.words-returns-then-is_single
words-returns-then-is_single t c =
    let words-reached : ((fit_more (stated c.args.self) c.args.k (after 32 (drop c.args.end c.args.s.now))))
    ≡ fit_more (stated c.args.self) c.args.k (split 32 (drop ((c.loop-e.e + 1)) c.args.s.now)) = let l = c.loop-e in
    l.invariant.2 ∙ ap (fit_more (stated c.args.self) c.args.k) (after_here 32 c.args.s.now l.e c.loop-e-test.true) in
    let words-most : c.end_of-e.result ≤ length c.args.s.now = c.end_of-e.ensures.lower_bound.1 in
    let words-word : c.word_ends.result ≡ true
    → ((fit_more (stated c.args.self) c.args.k (after 32 (drop c.args.end c.args.s.now))))
    ≡ ((λ (r : Rule). more_fits r (take (c.end_of-e.result - ((c.loop-e.e + 1))) (drop ((c.loop-e.e + 1)) c.args.s.now))
    && fit_more (stated c.args.self) c.args.k (after 32 (drop c.end_of-e.result c.args.s.now)))) c.rule-rule.result =
    λ q. words-reached
    ∙ more_word c.args.s.now ((c.loop-e.e + 1)) c.end_of-e.result c.end_of-e.ensures.value words-most (stated c.args.self)
    c.args.k (sym c.word_ends.ensures ∙ q)
    ∙ ap ((λ (r : Rule). more_fits r (take (c.end_of-e.result - ((c.loop-e.e + 1))) (drop ((c.loop-e.e + 1)) c.args.s.now))
    && fit_more (stated c.args.self) c.args.k (after 32 (drop c.end_of-e.result c.args.s.now))))
    (sym c.rule-rule.ensures) in rw (words-word (c.if-not-word_ends.false), sym c.is_single.ensures ∙ c.if-is_single.true)

pub words-text_fits-requires : goal.words-text_fits-requires
words-text_fits-requires t c =
    run_all text c.args.s.now (c.loop-e.e + 1) c.end_of-e.result c.end_of-e.ensures.value

pub words-returns-then-not-text_fits : goal.words-returns-then-not-text_fits
words-returns-then-not-text_fits t c =
    let words-reached : ((fit_more (stated c.args.self) c.args.k (after 32 (drop c.args.end c.args.s.now))))
    ≡ fit_more (stated c.args.self) c.args.k (split 32 (drop ((c.loop-e.e + 1)) c.args.s.now)) = let l = c.loop-e in
    l.invariant.2 ∙ ap (fit_more (stated c.args.self) c.args.k) (after_here 32 c.args.s.now l.e c.loop-e-test.true) in
    let words-most : c.end_of-e.result ≤ length c.args.s.now = c.end_of-e.ensures.lower_bound.1 in
    let words-word : c.word_ends.result ≡ true
    → ((fit_more (stated c.args.self) c.args.k (after 32 (drop c.args.end c.args.s.now))))
    ≡ ((λ (r : Rule). more_fits r (take (c.end_of-e.result - ((c.loop-e.e + 1))) (drop ((c.loop-e.e + 1)) c.args.s.now))
    && fit_more (stated c.args.self) c.args.k (after 32 (drop c.end_of-e.result c.args.s.now)))) c.rule-rule.result =
    λ q. words-reached
    ∙ more_word c.args.s.now ((c.loop-e.e + 1)) c.end_of-e.result c.end_of-e.ensures.value words-most (stated c.args.self)
    c.args.k (sym c.word_ends.ensures ∙ q)
    ∙ ap ((λ (r : Rule). more_fits r (take (c.end_of-e.result - ((c.loop-e.e + 1))) (drop ((c.loop-e.e + 1)) c.args.s.now))
    && fit_more (stated c.args.self) c.args.k (after 32 (drop c.end_of-e.result c.args.s.now))))
    (sym c.rule-rule.ensures) in
    let e = sym c.text_fits.ensures ∙ c.if-not-text_fits.true in
    rw (words-word (c.if-not-word_ends.false), sym c.is_single.ensures ∙ c.if-is_single.false, e)

pub words-loop-e-preserved : goal.words-loop-e-preserved
words-loop-e-preserved t c =
    let words-reached : ((fit_more (stated c.args.self) c.args.k (after 32 (drop c.args.end c.args.s.now))))
    ≡ fit_more (stated c.args.self) c.args.k (split 32 (drop ((c.loop-e.e + 1)) c.args.s.now)) = let l = c.loop-e in
    l.invariant.2 ∙ ap (fit_more (stated c.args.self) c.args.k) (after_here 32 c.args.s.now l.e c.loop-e-test.true) in
    let words-most : c.end_of-e.result ≤ length c.args.s.now = c.end_of-e.ensures.lower_bound.1 in
    let words-word : c.word_ends.result ≡ true
    → ((fit_more (stated c.args.self) c.args.k (after 32 (drop c.args.end c.args.s.now))))
    ≡ ((λ (r : Rule). more_fits r (take (c.end_of-e.result - ((c.loop-e.e + 1))) (drop ((c.loop-e.e + 1)) c.args.s.now))
    && fit_more (stated c.args.self) c.args.k (after 32 (drop c.end_of-e.result c.args.s.now)))) c.rule-rule.result =
    λ q. words-reached
    ∙ more_word c.args.s.now ((c.loop-e.e + 1)) c.end_of-e.result c.end_of-e.ensures.value words-most (stated c.args.self)
    c.args.k (sym c.word_ends.ensures ∙ q)
    ∙ ap ((λ (r : Rule). more_fits r (take (c.end_of-e.result - ((c.loop-e.e + 1))) (drop ((c.loop-e.e + 1)) c.args.s.now))
    && fit_more (stated c.args.self) c.args.k (after 32 (drop c.end_of-e.result c.args.s.now))))
    (sym c.rule-rule.ensures) in
    let e = sym c.text_fits.ensures ∙ c.if-not-text_fits.false in (
      search rules,
      search rules,
      rw (words-word (c.if-not-word_ends.false), sym c.is_single.ensures ∙ c.if-is_single.false, e),
    )

pub words-returns : goal.words-returns
words-returns t c =
    let a = c.args in
    let none = after_end 32 a.s.now c.loop-e.e c.loop-e-test.false in
    sym (c.loop-e.invariant.2 ∙ ap (fit_more (stated a.self) a.k) none)
