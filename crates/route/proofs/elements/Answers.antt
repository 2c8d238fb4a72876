-- `route::elements` meets its contract. Assumes nothing.
use mathlib.Core.Path.{◌≡◌, sym, ◌∙◌}
use Prim.Native.Nat.{◌+◌, ◌-◌, ◌<◌}
use mathlib.Core.Bool.{Bool, true, false, ◌&&◌}
use native.Mathlib.Omega.{arith}
use lib.ListN.{length, take, drop}
use Rattle.alphabet.specs.Alphabet.{sign}
use Rattle.text.specs.Words.{split, up_to, all, leading}
use Rattle.route.specs.Field15.{word_fits, element_fits, route_fits}
use Rattle.route.proofs.Index.{route_not, route_last, route_next}
use Rattle.route.proofs.Signs.{signs_plain, anywhere, word_signs, space_behind, space_here, space_none, signs_inside, signs_there}
use borrow.Author.Rules.{rules}
use Rattle.route.proofs.elements.Goals.{After-end_of-o, After-find-e, Then-s-o-eq32}
use Rattle.route.proofs.elements.Goals as goal

signs : (c : After-end_of-o) → all sign ((take (c.end_of-o.result - c.loop-w.at) (drop c.loop-w.at c.args.s.now))) ≡ true
signs c =
    word_signs c.args.s.now c.loop-w.at c.end_of-o.result c.end_of-o.ensures.value

next : (c : Then-s-o-eq32) → route_fits (split 32 (drop c.loop-w.at c.args.s.now))
    ≡ (word_fits false (take (c.end_of-o.result - c.loop-w.at) (drop c.loop-w.at c.args.s.now))
    && route_fits (split 32 (drop (c.end_of-o.result + 1) c.args.s.now)))
next c =
    let signs : all sign ((take (c.end_of-o.result - c.loop-w.at) (drop c.loop-w.at c.args.s.now))) ≡ true =
    word_signs c.args.s.now c.loop-w.at c.end_of-o.result c.end_of-o.ensures.value in
    let l : c.end_of-o.result < length c.args.s.now = omega arith in
    let n = space_here c.args.s.now c.loop-w.at c.end_of-o.result c.end_of-o.ensures.value l c.if-s-o-eq32.true in
    rw (signs_plain false (take (c.end_of-o.result - c.loop-w.at) (drop c.loop-w.at c.args.s.now)) signs) at
    (route_next c.args.s.now c.loop-w.at c.end_of-o.result n l)

inside : (c : After-find-e) → c.end_of-o.result < length c.args.s.now
inside c =
    omega arith

signs-end : (c : After-find-e) → c.end_of-o.result ≡ c.loop-w.at + leading sign (drop c.loop-w.at c.args.s.now)
signs-end c =
    c.end_of-o.ensures.value

end : (c : After-find-e) → c.find-e.result ≡ c.loop-w.at + up_to 32 (drop c.loop-w.at c.args.s.now)
end c =
    space_behind c.args.s.now c.loop-w.at c.end_of-o.result (signs-end c) c.find-e.result c.find-e.ensures.value

further : (c : After-find-e) → c.end_of-o.result - c.loop-w.at < length ((take (c.find-e.result - c.loop-w.at) (drop c.loop-w.at c.args.s.now)))
further c =
    signs_inside c.args.s.now c.loop-w.at c.end_of-o.result (signs-end c) c.find-e.result c.find-e.ensures.lower_bound.1 c.find-e.ensures.value
    (inside c) c.if-s-o-eq32.false

there : (c : After-find-e) → c.end_of-o.result - c.loop-w.at ≡ leading sign ((take (c.find-e.result - c.loop-w.at) (drop c.loop-w.at c.args.s.now)))
there c =
    signs_there c.args.s.now c.loop-w.at c.end_of-o.result (signs-end c) c.find-e.result c.find-e.ensures.lower_bound.1 c.find-e.ensures.value
    (inside c) c.if-s-o-eq32.false

wherever : (c : After-find-e) → (last : Bool) → element_fits last ((take (c.find-e.result - c.loop-w.at) (drop c.loop-w.at c.args.s.now)))
    ≡ element_fits true ((take (c.find-e.result - c.loop-w.at) (drop c.loop-w.at c.args.s.now)))
wherever c =
    anywhere ((take (c.find-e.result - c.loop-w.at) (drop c.loop-w.at c.args.s.now))) (c.end_of-o.result - c.loop-w.at) (there c) (further c)

pub invariant_of-w : goal.invariant_of-w
invariant_of-w c =
    record { signs = signs (goal.at.invariant_of-w c).After-end_of-o }

pub returns-then-o-s : goal.returns-then-o-s
returns-then-o-s c =
    let n = space_none c.args.s.now c.loop-w.at c.end_of-o.result c.end_of-o.ensures.value (omega arith) in
    c.word.ensures ∙ sym (c.loop-w.invariant.1 ∙ route_last c.args.s.now c.loop-w.at c.end_of-o.result n (omega arith)
    ∙ signs_plain true (take (c.end_of-o.result - c.loop-w.at) (drop c.loop-w.at c.args.s.now)) (signs (goal.at.returns-then-o-s c).After-end_of-o))

pub invariant_of-w-then-s-o-eq32 : goal.invariant_of-w-then-s-o-eq32
invariant_of-w-then-s-o-eq32 c =
    record { signs = signs (goal.at.invariant_of-w-then-s-o-eq32 c).After-end_of-o }

pub returns-then-not-word : goal.returns-then-not-word
returns-then-not-word c =
    sym (c.loop-w.invariant.1 ∙ rw (next (goal.at.returns-then-not-word c).Then-s-o-eq32, sym c.word-then-s-o-eq32.ensures ∙ c.if-not-word.true))

pub loop-w-preserved-then-s-o-eq32 : goal.loop-w-preserved-then-s-o-eq32
loop-w-preserved-then-s-o-eq32 c = (
  search rules,
  c.loop-w.invariant.1 ∙ rw (
    next (goal.at.loop-w-preserved-then-s-o-eq32 c).Then-s-o-eq32,
    sym c.word-then-s-o-eq32.ensures
        ∙ c.if-not-word.false,
  ),
)

pub joined-requires : goal.joined-requires
joined-requires c =
    (further (goal.at.joined-requires c).After-find-e, there (goal.at.joined-requires c).After-find-e)

pub returns-then-not-joined : goal.returns-then-not-joined
returns-then-not-joined c =
    let bad = sym c.joined.ensures ∙ c.if-not-joined.true in
    sym (c.loop-w.invariant.1 ∙ route_not c.args.s.now c.loop-w.at c.find-e.result (end (goal.at.returns-then-not-joined c).After-find-e)
    (λ last. wherever (goal.at.returns-then-not-joined c).After-find-e last ∙ bad))

pub returns-then-e-s : goal.returns-then-e-s
returns-then-e-s c =
    let good = sym c.joined.ensures ∙ c.if-not-joined.false in
    sym (c.loop-w.invariant.1 ∙ route_last c.args.s.now c.loop-w.at c.find-e.result (end (goal.at.returns-then-e-s c).After-find-e) (omega arith) ∙ good)

pub loop-w-preserved : goal.loop-w-preserved
loop-w-preserved c =
    let good = wherever (goal.at.loop-w-preserved c).After-find-e false ∙ sym c.joined.ensures ∙ c.if-not-joined.false in (
      search rules,
      c.loop-w.invariant.1 ∙ rw (
        route_next c.args.s.now c.loop-w.at c.find-e.result (end (goal.at.loop-w-preserved c).After-find-e)
            (omega arith),
        good,
      ),
    )
