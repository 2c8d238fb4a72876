-- `canonical::put_words` meets its contract. Assumes nothing.
use Prim.Native.Nat.{◌+◌, ◌-◌, ◌≤◌, ◌<◌}
use mathlib.Core.Path.{◌≡◌, refl, sym, ap, ◌∙◌}
use mathlib.Core.List.{[], ◌∷◌, ◌++◌, append-nil}
use native.Mathlib.Omega.{arith}
use lib.ListN.{length, take, drop, length-set, length-drop}
use Rattle.text.proofs.Lent.{lent, store, Writing, begin, due, room, onward, all_written}
use Rattle.text.specs.Words.{split, join, after}
use Rattle.text.proofs.Index.{rest, split_at}
use Rattle.supplement.specs.declared.Stage.{Stage}
use Rattle.supplement.specs.declared.Stage.TheVariants.{Refused}
use Rattle.supplement.specs.Walk.{step, walked}
use Rattle.supplement.proofs.Walk.{walk_fits, walked_next}
use Rattle.supplement.proofs.Steps.{oblique_second}
use Rattle.canonical.specs.Rewriting.{rewrite, rewritten, rewritten_text, settled}
use Rattle.canonical.proofs.Words.{spaced, text_at, text_last, text_next}
use Rattle.canonical.proofs.Fitting.{none_refused, settled_rest}
use Rattle.canonical.proofs.put_words.Goals.{After-find-e, After-read_as-stage, Then-is_settled}
use Rattle.canonical.proofs.put_words.Goals as goal

-- the word that begins here is not refused
not-refused : (c : After-find-e) → let s = c.args.s.now in
    step c.loop-w.stage (take (c.find-e.result - c.loop-w.at) (drop c.loop-w.at s)) ≡ Refused → ⊥
not-refused c =
    let l = c.loop-w in
    let s = c.args.s.now in
    let e = c.find-e.result in
    none_refused l.stage (take (e - l.at) (drop l.at s)) (after 32 (drop e s))
    (sym (ap (walked l.stage) (split_at 32 s l.at e c.find-e.ensures.value)) ∙ l.invariant.3)

-- behind the last word nothing is left
last : (c : After-read_as-stage) → length c.args.s.now ≤ c.find-e.result
    → Writing (rewritten_text c.args.s.now) c.args.out.now c.loop-w.out c.loop-w.o
    ((rewrite c.read_as-stage.result (take (c.find-e.result - c.loop-w.at) (drop c.loop-w.at c.args.s.now))) ++ [])
last c h =
    let l = c.loop-w in
    due l.invariant.2 (text_last l.stage c.read_as-stage.result c.args.s.now l.at c.find-e.result c.find-e.ensures.value c.read_as-stage.ensures h)

next : (c : After-read_as-stage) → c.find-e.result < length c.args.s.now
    → Writing (rewritten_text c.args.s.now) c.args.out.now c.loop-w.out c.loop-w.o
    ((rewrite c.read_as-stage.result (take (c.find-e.result - c.loop-w.at) (drop c.loop-w.at c.args.s.now)))
    ++ (32 ∷ join 32 (rewritten c.read_as-stage.result (split 32 (drop (c.find-e.result + 1) c.args.s.now)))))
next c h =
    let l = c.loop-w in
    due l.invariant.2 (text_next l.stage c.read_as-stage.result c.args.s.now l.at c.find-e.result c.find-e.ensures.value c.read_as-stage.ensures h)

fits : (c : After-read_as-stage) → c.loop-w.o + length (rewrite c.read_as-stage.result (take (c.find-e.result - c.loop-w.at) (drop c.loop-w.at c.args.s.now)))
    ≤ length (rewritten_text c.args.s.now)
fits c =
    let l = c.loop-w in
    let t = text_at l.stage c.read_as-stage.result c.args.s.now l.at c.find-e.result c.find-e.ensures.value c.read_as-stage.ensures in
    omega (
      arith,
      room (rewrite c.read_as-stage.result (take (c.find-e.result - c.loop-w.at) (drop c.loop-w.at c.args.s.now)))
          (spaced c.read_as-stage.result (after 32 (drop c.find-e.result c.args.s.now))) (due l.invariant.2 t),
    )

as_sent_lem : (c : Then-is_settled) → Writing (rewritten_text c.args.s.now) c.args.out.now c.loop-w.out c.loop-w.o
    ((take (length c.args.s.now - c.loop-w.at) (drop c.loop-w.at c.args.s.now)) ++ [])
as_sent_lem c =
    let l = c.loop-w in
    let k = sym (ap settled c.read_as-stage.ensures) ∙ sym c.is_settled.ensures ∙ c.if-is_settled.true in
    due l.invariant.2
    (settled_rest l.stage c.args.s.now l.at c.find-e.result c.find-e.ensures.value l.invariant.3 k
    ∙ sym (append-nil (take (length c.args.s.now - c.loop-w.at) (drop c.loop-w.at c.args.s.now)) ∙ rest c.args.s.now l.at))

tail-room : (c : Then-is_settled) → c.loop-w.o + length (take (length c.args.s.now - c.loop-w.at) (drop c.loop-w.at c.args.s.now))
    ≤ length (rewritten_text c.args.s.now)
tail-room c =
    omega (arith, room (take (length c.args.s.now - c.loop-w.at) (drop c.loop-w.at c.args.s.now)) [] (as_sent_lem c))

pub loop-w-init : goal.loop-w-init
unfolding rewritten_text
loop-w-init c =
    let s = c.args.s.now in
    (omega arith, refl, begin (rewritten_text s) c.args.out.now, walk_fits s ∙ c.requires.0)

pub read_as-stage-requires : goal.read_as-stage-requires
read_as-stage-requires c =
    not-refused (goal.at.read_as-stage-requires c).After-find-e

pub put-requires : goal.put-requires
put-requires c =
    let l = c.loop-w in
    omega (arith, tail-room (goal.at.put-requires c).Then-is_settled, ap length (rest l.out l.o), length-drop l.o l.out, l.invariant.1, c.requires.1)

pub overflow_add-result : goal.overflow_add-result
overflow_add-result c =
    omega (arith, tail-room (goal.at.overflow_add-result c).Then-is_settled, c.put.ensures.0, c.requires.1, c.well_formed.1.0)

pub returns-then-is_settled : goal.returns-then-is_settled
returns-then-is_settled c =
    let l = c.loop-w in
    let r = c.put.ensures in
    rw r.0
    (all_written (onward (take (length c.args.s.now - c.loop-w.at) (drop c.loop-w.at c.args.s.now)) []
    (as_sent_lem (goal.at.returns-then-is_settled c).Then-is_settled) _
    (lent l.out (take (length c.args.s.now - c.loop-w.at) (drop c.loop-w.at c.args.s.now)) l.o _ r.1)))

pub put_word-o-requires : goal.put_word-o-requires
put_word-o-requires c =
    let l = c.loop-w in (
      oblique_second l.stage (take (c.find-e.result - l.at) (drop l.at c.args.s.now)) (not-refused (goal.at.put_word-o-requires c).After-find-e),
      omega (arith, fits (goal.at.put_word-o-requires c).After-read_as-stage, ap length (rest l.out l.o), length-drop l.o l.out, l.invariant.1, c.requires.1),
    )

pub overflow_add-o : goal.overflow_add-o
overflow_add-o c =
    omega (arith, fits (goal.at.overflow_add-o c).After-read_as-stage, c.put_word-o.ensures.0, c.requires.1, c.well_formed.1.0)

pub returns-then-e-s : goal.returns-then-e-s
returns-then-e-s c =
    let l = c.loop-w in
    let r = c.put_word-o.ensures in
    rw r.0 (all_written (onward (rewrite c.read_as-stage.result (take (c.find-e.result - c.loop-w.at) (drop c.loop-w.at c.args.s.now))) []
    (last (goal.at.returns-then-e-s c).After-read_as-stage (omega arith)) _
    (lent l.out (rewrite c.read_as-stage.result (take (c.find-e.result - c.loop-w.at) (drop c.loop-w.at c.args.s.now))) l.o _ r.1)))

pub bounds-out-o : goal.bounds-out-o
bounds-out-o c =
    let q = room (rewrite c.read_as-stage.result (take (c.find-e.result - c.loop-w.at) (drop c.loop-w.at c.args.s.now)))
    (32 ∷ join 32 (rewritten c.read_as-stage.result (split 32 (drop (c.find-e.result + 1) c.args.s.now))))
    (next (goal.at.bounds-out-o c).After-read_as-stage (omega arith)) in
    omega (arith, c.put_word-o.ensures.0, q, c.out-in-loop-w-1.given.1, c.loop-w.invariant.1, c.requires.1)

pub overflow_add-o-in-loop-w : goal.overflow_add-o-in-loop-w
overflow_add-o-in-loop-w c =
    let q = room (rewrite c.read_as-stage.result (take (c.find-e.result - c.loop-w.at) (drop c.loop-w.at c.args.s.now)))
    (32 ∷ join 32 (rewritten c.read_as-stage.result (split 32 (drop (c.find-e.result + 1) c.args.s.now))))
    (next (goal.at.overflow_add-o-in-loop-w c).After-read_as-stage (omega arith)) in
    omega (arith, c.put_word-o.ensures.0, q, c.requires.1, c.well_formed.1.0)

pub loop-w-preserved : goal.loop-w-preserved
loop-w-preserved c =
    let l = c.loop-w in
    let r = c.put_word-o.ensures in
    let n = next (goal.at.loop-w-preserved c).After-read_as-stage (omega arith) in
    let t = onward (rewrite c.read_as-stage.result (take (c.find-e.result - c.loop-w.at) (drop c.loop-w.at c.args.s.now)))
    (32 ∷ join 32 (rewritten c.read_as-stage.result (split 32 (drop (c.find-e.result + 1) c.args.s.now)))) n _
    (lent l.out (rewrite c.read_as-stage.result (take (c.find-e.result - c.loop-w.at) (drop c.loop-w.at c.args.s.now))) l.o _ r.1) in
    let q = room (rewrite c.read_as-stage.result (take (c.find-e.result - c.loop-w.at) (drop c.loop-w.at c.args.s.now)))
    (32 ∷ join 32 (rewritten c.read_as-stage.result (split 32 (drop (c.find-e.result + 1) c.args.s.now)))) n in
    let k = c.out-in-loop-w-1.given.1 in (
      omega arith,
      simp length-set (k ∙ l.invariant.1),
      rw r.0 (onward (32 ∷ []) (drop 1 (32 ∷ join 32 (rewritten c.read_as-stage.result (split 32 (drop (c.find-e.result + 1) c.args.s.now))))) t _
          (store _ (l.o + length (rewrite c.read_as-stage.result (take (c.find-e.result - c.loop-w.at) (drop c.loop-w.at c.args.s.now)))) 32
          (omega (arith, q, k, l.invariant.1, c.requires.1)))),
      ap (λ (x : Stage). walked x (split 32 (drop (c.find-e.result + 1) c.args.s.now))) c.read_as-stage.ensures
          ∙ sym (walked_next l.stage c.args.s.now l.at c.find-e.result c.find-e.ensures.value (omega arith)) ∙ l.invariant.3,
    )
