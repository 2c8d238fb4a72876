-- `parts::field_in` meets its contract. Assumes nothing.
use Prim.Native.Nat.{ℕ, ◌+◌}
use mathlib.Core.Path.{◌≡◌, sym, ap, ◌∙◌}
use mathlib.Core.List.{map}
use native.Mathlib.Omega.{arith}
use Rattle.text.specs.Words.{up_to}
use Rattle.kinds.specs.Kinds.{forms_of, number_of}
use Rattle.message.specs.Reading.{count_of}
use Rattle.parts.specs.Parts.{rank_in}
use Rattle.parts.proofs.Steps.{thirteen_most, none_there, one_there}
use Rattle.parts.proofs.field_in.Goals.{After-count_hyphens-count, After-rank_of-j}
use Rattle.parts.proofs.field_in.Goals as goal

count_is : (c : After-count_hyphens-count) → c.count_hyphens-count.result + 1 ≡ count_of c.args.m.now
count_is c =
    ap (λ (k : ℕ). k + 1) c.count_hyphens-count.ensures

rank_is : (c : After-rank_of-j) → c.rank_of-j.result ≡ rank_in c.args.t c.args.m.now c.args.number
rank_is c =
    let count_is : c.count_hyphens-count.result + 1 ≡ count_of c.args.m.now = ap (λ (k : ℕ). k + 1) c.count_hyphens-count.ensures in
    let a = c.args in
    c.rank_of-j.ensures ∙ ap (λ (k : ℕ). up_to a.number (map number_of (forms_of a.t k))) count_is

pub overflow_add-count : goal.overflow_add-count
overflow_add-count c =
    omega (arith, count_is (goal.at.overflow_add-count c).After-count_hyphens-count, c.requires.greatest, thirteen_most c.args.t)

pub rank_of-j-requires : goal.rank_of-j-requires
rank_of-j-requires c =
    let o = c.requires in (
      omega (arith, count_is (goal.at.rank_of-j-requires c).After-count_hyphens-count, o.least),
      omega
          (arith, count_is (goal.at.rank_of-j-requires c).After-count_hyphens-count, o.greatest),
    )

pub returns-then-j-count : goal.returns-then-j-count
returns-then-j-count c =
    let a = c.args in
    none_there a.t a.m.now a.number c.requires _ (rank_is (goal.at.returns-then-j-count c).After-rank_of-j)
    (c.if-j-count.true ∙ count_is (goal.at.returns-then-j-count c).After-count_hyphens-count)

pub field_at-requires : goal.field_at-requires
field_at-requires c =
    let o = c.requires in (o.two, o.short, o.stays)

pub returns : goal.returns
returns c =
    let a = c.args in
    one_there a.t a.m.now a.number c.requires _ (rank_is (goal.at.returns c).After-rank_of-j)
    (λ e. c.if-j-count.false (e ∙ sym (count_is (goal.at.returns c).After-count_hyphens-count)))
    _ c.field_at.ensures
