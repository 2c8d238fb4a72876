-- `message::read_scratch` meets its contract. Assumes nothing.
use Prim.Native.Nat.{ℕ, ◌-◌, ◌≤◌}
use mathlib.Core.Path.{ap, ◌∙◌}
use mathlib.Core.List.{List, []}
use lib.ListN.{take, drop}
use Rattle.outer.proofs.Good.{good_short}
use Rattle.message.proofs.Steps.{counted, few_fields, reduced_two, reduced_short, text_in}
use native.Mathlib.Omega.{arith}
use Rattle.message.proofs.read_scratch.Goals.{After-reduce-n}
use Rattle.message.proofs.read_scratch.Goals as goal

two : (c : After-reduce-n) → 2 ≤ c.reduce-n.result
two c =
    reduced_two c.args.msg.now [] _ c.requires.0 c.reduce-n.ensures.0

short : (c : After-reduce-n) → c.reduce-n.result ≤ 1800
short c =
    reduced_short c.args.msg.now [] _ c.requires.0 c.reduce-n.ensures.0

pub reduce-n-requires : goal.reduce-n-requires
reduce-n-requires c =
    good_short c.args.msg.now c.requires.0

pub overflow_sub-e : goal.overflow_sub-e
overflow_sub-e c =
    omega (arith, two (goal.at.overflow_sub-e c).After-reduce-n)

pub slice_bounds-read_text-count : goal.slice_bounds-read_text-count
slice_bounds-read_text-count c =
    omega (arith, two (goal.at.slice_bounds-read_text-count c).After-reduce-n)

pub slice_bounds-read_text-start : goal.slice_bounds-read_text-start
slice_bounds-read_text-start c =
    omega (arith, two (goal.at.slice_bounds-read_text-start c).After-reduce-n)

pub slice_bounds-read_text-end : goal.slice_bounds-read_text-end
slice_bounds-read_text-end c =
    omega (arith, short (goal.at.slice_bounds-read_text-end c).After-reduce-n, c.reduce-n.auto.buf)

pub read_text-requires : goal.read_text-requires
read_text-requires c =
    let u = c.reduce-n in
    let text = ap (λ (l : List ℕ). take (u.result - 1 - 1) (drop 1 l)) u.ensures.1 ∙ text_in c.args.msg.now _ u.result c.requires.0 u.ensures.0 in
    let k = counted c.args.msg.now [] u.result c.requires.0 u.ensures.0 c.args.t c.args.count c.requires.1 c.requires.2 c.requires.3 _ text in
    (k, few_fields c.args.t c.args.msg.now c.args.count _ k c.requires.2 c.requires.3)
