-- `form_places::place_entry` meets its contract. Assumes nothing.
use Rattle.text.proofs.Index.{found_before}
use Prim.Native.Nat.{ℕ, ◌+◌, ◌-◌}
use mathlib.Core.Path.{sym, ap, ◌∙◌}
use lib.ListN.{length, take, drop}
use lib.Seq.{length-take-le}
use borrow.Author.Tests.{le-ltb, lt-ltb}
use Rattle.entries.specs.Entries.{any_of}
use Rattle.places.proofs.Index.{cut_none, cut_off, cut_on, behind_within}
use Rattle.forms.specs.Field22.{labels, which_of}
use Rattle.form_places.specs.Places.{is_number, place_named, place22}
use Rattle.form_places.proofs.Index.{named_within}
use native.Mathlib.Omega.{arith}
use Rattle.form_places.proofs.place_entry.Goals as goal

-- src/lib.rt:31:57
pub slice_bounds-any_of-end-then-k-eq0-2 : goal.slice_bounds-any_of-end-then-k-eq0-2
slice_bounds-any_of-end-then-k-eq0-2 c =
    sym (length-take-le _ _ c.find-o.ensures.lower_bound.1)

-- src/lib.rt:31:9
pub returns-then-o-s : goal.returns-then-o-s
unfolding place22 labels
returns-then-o-s c =
    let s = c.args.s.now in
    let f = c.find-o in
    cut_none 47 is_number (any_of labels) (place_named (which_of s)) s f.result f.ensures.value c.any_of.result c.if-o-s.true c.any_of.ensures

-- src/lib.rt:34:9
pub returns-then-k-eq0 : goal.returns-then-k-eq0
unfolding place22 labels
returns-then-k-eq0 c =
    let s = c.args.s.now in
    let f = c.find-o in
    let k = c.rank_in-k in
    cut_off 47 is_number (any_of labels) (place_named (which_of s)) s f.result f.ensures.value c.any_of-then-k-eq0.result
    (ap is_number (found_before 47 s f.result f.ensures.value) ∙ le-ltb 0 (which_of s) (omega (arith, k.ensures.0, c.if-k-eq0.true)))
    c.any_of-then-k-eq0.ensures

-- src/lib.rt:36:5
pub overflow_add-result-2 : goal.overflow_add-result-2
overflow_add-result-2 c =
    let s = c.args.s.now in
    let k = c.rank_in-k.result in
    let o = c.find-o.result in
    omega (arith, behind_within (place_named k) (named_within k) s (o + 1) c.place_named.result (omega arith) c.place_named.ensures)

-- src/lib.rt:25:1
pub returns : goal.returns
unfolding place22 labels
returns c =
    let s = c.args.s.now in
    let f = c.find-o in
    let k = c.rank_in-k in
    cut_on 47 is_number (any_of labels) (place_named (which_of s)) s f.result f.ensures.value c.place_named.result c.if-o-s.false
    f.ensures.lower_bound.1
    (ap is_number (found_before 47 s f.result f.ensures.value) ∙ lt-ltb 0 (which_of s) (omega (arith, k.ensures.0, c.if-k-eq0.false)))
    (c.place_named.ensures ∙ ap (λ (n : ℕ). place_named n (take (length s - (f.result + 1)) (drop (f.result + 1) s))) k.ensures.0)
