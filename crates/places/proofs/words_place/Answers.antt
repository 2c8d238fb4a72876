-- `places::words_place` meets its contract. Assumes nothing.
use mathlib.Core.Path.{sym, ◌∙◌}
use Rattle.std.proofs.Common.{rules, arith}
use Rattle.places.specs.Words.{form}
use Rattle.places.proofs.Index.{words_last, words_stuck, words_end, words_next}
use Rattle.places.proofs.Texts.{word_length}
use Rattle.places.proofs.words_place.Goals as goal

pub returns-then-e-s : goal.returns-then-e-s
returns-then-e-s g c a f h p ka kg kp =
    let l = c.loop-place in
    omega (
      arith,
      l.invariant.4 a f h p ka kg kp,
      kp _ _ _ c.place.ensures,
      words_last (form _ a f h) p l.known c.args.s.now l.at c.find-e.result c.find-e.ensures.value (omega arith),
    )

pub returns-in-None : goal.returns-in-None
returns-in-None g c a f h p ka kg kp =
    let l = c.loop-place in
    omega (
      arith,
      l.invariant.4 a f h p ka kg kp,
      kp _ _ _ c.place-in-None.ensures,
      words_stuck (form _ a f h) p l.known c.args.s.now l.at c.find-e.result c.find-e.ensures.value (omega arith)
          (sym (ka _ _ _ c.after.ensures) ∙ c.in-None.is),
    )

pub returns-then-not-goes : goal.returns-then-not-goes
returns-then-not-goes g c a f h p ka kg kp =
    let l = c.loop-place in
    omega (
      arith,
      l.invariant.4 a f h p ka kg kp,
      word_length c.args.s.now l.at c.find-e.result (omega arith) (omega arith),
      words_end (form _ a f h) p l.known c.args.s.now l.at c.find-e.result c.find-e.ensures.value c.in-Some.next (omega arith)
          (sym (ka _ _ _ c.after.ensures) ∙ c.in-Some.is) (sym (kg _ _ c.goes.ensures) ∙ c.if-not-goes.true),
    )

pub loop-place-preserved : goal.loop-place-preserved
loop-place-preserved g c =
    let l = c.loop-place in (
      search rules,
      search rules,
      search rules,
      omega arith,
      λ a f h p ka kg kp. omega (
        arith,
        l.invariant.4 a f h p ka kg kp,
        word_length c.args.s.now l.at c.find-e.result (omega arith) (omega arith),
        words_next (form _ a f h) p l.known c.args.s.now l.at c.find-e.result c.find-e.ensures.value c.in-Some.next (omega arith)
            (sym (ka _ _ _ c.after.ensures) ∙ c.in-Some.is) (sym (kg _ _ c.goes.ensures) ∙ c.if-not-goes.false),
      ),
    )
