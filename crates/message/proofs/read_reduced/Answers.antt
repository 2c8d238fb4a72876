-- `message::read_reduced` meets its contract. Assumes nothing.
use Prim.Native.Nat.{◌≤◌}
use mathlib.Core.Path.{◌≡◌, refl, sym, ◌∙◌}
use mathlib.Core.List.{[]}
use lib.ListN.{length}
use Rattle.text.proofs.Tests.{same-eq}
use Rattle.space.specs.Reduced.{reduced}
use Rattle.message.proofs.Steps.{counted, few_fields, two_bytes, text_itself}
use native.Mathlib.Omega.{arith}
use Rattle.message.proofs.read_reduced.Goals.{Then-is_reduced}
use Rattle.message.proofs.read_reduced.Goals as goal

itself : (c : Then-is_reduced) → reduced c.args.msg.now ≡ c.args.msg.now
itself c =
    same-eq (reduced c.args.msg.now) c.args.msg.now (sym c.is_reduced.ensures ∙ c.if-is_reduced.true)

two : (c : Then-is_reduced) → 2 ≤ length c.args.msg.now
two c =
    two_bytes c.args.msg.now c.requires.0

pub overflow_sub-last : goal.overflow_sub-last
overflow_sub-last c =
    omega (arith, two (goal.at.overflow_sub-last c).Then-is_reduced)

pub slice_bounds-read_text-count : goal.slice_bounds-read_text-count
slice_bounds-read_text-count c =
    omega (arith, two (goal.at.slice_bounds-read_text-count c).Then-is_reduced)

pub slice_bounds-read_text-start : goal.slice_bounds-read_text-start
slice_bounds-read_text-start c =
    omega (arith, two (goal.at.slice_bounds-read_text-start c).Then-is_reduced)

pub slice_bounds-read_text-end : goal.slice_bounds-read_text-end
slice_bounds-read_text-end c =
    omega (arith, two (goal.at.slice_bounds-read_text-end c).Then-is_reduced)

pub read_text-requires : goal.read_text-requires
read_text-requires c =
    let k = counted c.args.msg.now [] _ c.requires.0 refl c.args.t c.args.count c.requires.1 c.requires.2 c.requires.3 _
    (text_itself c.args.msg.now (itself (goal.at.read_text-requires c).Then-is_reduced)) in
    (k, few_fields c.args.t c.args.msg.now c.args.count _ k c.requires.2 c.requires.3)

pub returns-then-is_reduced : goal.returns-then-is_reduced
returns-then-is_reduced c =
    c.read_text.ensures

pub read_scratch-requires : goal.read_scratch-requires
read_scratch-requires c =
    c.requires

pub returns : goal.returns
returns c =
    c.read_scratch.ensures
