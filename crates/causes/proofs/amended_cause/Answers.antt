-- `causes::amended_cause` meets its contract. Assumes nothing.
use Prim.Native.Nat.{ℕ, ◌-◌, ◌≤◌}
use mathlib.Core.Path.{◌≡◌, refl, sym, ap, ◌∙◌}
use mathlib.Core.List.{List}
use native.Mathlib.Omega.{arith}
use lib.ListN.{length, take, drop}
use Rattle.text.specs.Words.{Word, split}
use Rattle.plan.specs.Unexplained.{numbered}
use Rattle.plan.proofs.Laws.{numbered_none, numbered_some}
use Rattle.message.specs.Reading.{unexplained_in}
use Rattle.opening.proofs.Steps.{front_text}
use Rattle.amending.specs.Amended.{amended, new_strip}
use Rattle.amending.proofs.Room.{new_room, new_two, new_cut}
use Rattle.causes.specs.Causes.{key_for}
use Rattle.causes.proofs.Steps.{explained, unexplained}
use Rattle.causes.proofs.amended_cause.Goals.{After-unexplained_in, After-write_amended-n}
use Rattle.causes.proofs.amended_cause.Goals as goal

long : (c : After-write_amended-n) → c.write_amended-n.result ≡ length (new_strip c.args.role c.args.plan.now c.args.said.now)
long c =
    c.write_amended-n.ensures.0

two : (c : After-write_amended-n) → 2 ≤ c.write_amended-n.result
two c =
    omega (arith, (long c), new_two c.args.plan.now c.args.said.now c.args.role)

inside : (c : After-write_amended-n) → c.write_amended-n.result ≤ length c.write_amended-n.new.out
inside c =
    let fits = new_room c.args.plan.now c.args.said.now c.args.role c.requires.0 in
    omega (arith, (long c), fits, c.requires.1, c.requires.2, c.write_amended-n.auto.out)

text_there : (c : After-write_amended-n) → split 45 (take (c.write_amended-n.result - 1 - 1) (drop 1 c.write_amended-n.new.out))
    ≡ ((amended c.args.role c.args.plan.now c.args.said.now))
text_there c =
    ap (λ (w : List ℕ). split 45 (take (c.write_amended-n.result - 1 - 1) (drop 1 w))) c.write_amended-n.ensures.1
    ∙ ap (split 45) (front_text _ _ c.write_amended-n.result (long c) (two c))
    ∙ new_cut c.args.plan.now c.args.said.now c.args.role

field_is : (c : After-unexplained_in) → c.unexplained_in.result ≡ numbered (unexplained_in (amended c.args.role c.args.plan.now c.args.said.now))
field_is c =
    let long : c.write_amended-n.result ≡ length (new_strip c.args.role c.args.plan.now c.args.said.now) = c.write_amended-n.ensures.0 in
    let two : 2 ≤ c.write_amended-n.result = omega (arith, long, new_two c.args.plan.now c.args.said.now c.args.role) in
    let text_there : split 45 (take (c.write_amended-n.result - 1 - 1) (drop 1 c.write_amended-n.new.out))
    ≡ ((amended c.args.role c.args.plan.now c.args.said.now)) = ap (λ (w : List ℕ). split 45 (take (c.write_amended-n.result - 1 - 1) (drop 1 w)))
    c.write_amended-n.ensures.1
    ∙ ap (split 45) (front_text _ _ c.write_amended-n.result long two)
    ∙ new_cut c.args.plan.now c.args.said.now c.args.role in
    c.unexplained_in.ensures ∙ ap (λ (cs : List Word). numbered (unexplained_in cs)) text_there

pub write_amended-n-requires : goal.write_amended-n-requires
write_amended-n-requires c =
    omega (arith, new_room c.args.plan.now c.args.said.now c.args.role c.requires.0, c.requires.1, c.requires.2)

pub overflow_sub-e : goal.overflow_sub-e
overflow_sub-e c =
    omega (arith, two (goal.at.overflow_sub-e c).After-write_amended-n)

pub slice_bounds-unexplained_in-count : goal.slice_bounds-unexplained_in-count
slice_bounds-unexplained_in-count c =
    omega (arith, two (goal.at.slice_bounds-unexplained_in-count c).After-write_amended-n)

pub slice_bounds-unexplained_in-start : goal.slice_bounds-unexplained_in-start
slice_bounds-unexplained_in-start c =
    omega (arith, two (goal.at.slice_bounds-unexplained_in-start c).After-write_amended-n)

pub slice_bounds-unexplained_in-end : goal.slice_bounds-unexplained_in-end
slice_bounds-unexplained_in-end c =
    omega (arith, inside (goal.at.slice_bounds-unexplained_in-end c).After-write_amended-n)

pub returns-in-None : goal.returns-in-None
returns-in-None c =
    explained (amended c.args.role c.args.plan.now c.args.said.now) _ refl
    (numbered_none _ (sym (field_is (goal.at.returns-in-None c).After-unexplained_in) ∙ c.in-None.is))

pub slice_bounds-key_for-count : goal.slice_bounds-key_for-count
slice_bounds-key_for-count c =
    omega (arith, two (goal.at.slice_bounds-key_for-count c).After-write_amended-n)

pub slice_bounds-key_for-start : goal.slice_bounds-key_for-start
slice_bounds-key_for-start c =
    omega (arith, two (goal.at.slice_bounds-key_for-start c).After-write_amended-n)

pub slice_bounds-key_for-end : goal.slice_bounds-key_for-end
slice_bounds-key_for-end c =
    omega (arith, inside (goal.at.slice_bounds-key_for-end c).After-write_amended-n)

pub returns-in-Some : goal.returns-in-Some
returns-in-Some c =
    let n = numbered_some _ _ (sym (field_is (goal.at.returns-in-Some c).After-unexplained_in) ∙ c.in-Some.is) in
    unexplained (amended c.args.role c.args.plan.now c.args.said.now) _ n.0 n.1 _
    (c.key_for.ensures ∙ ap (key_for c.in-Some.field) (text_there (goal.at.returns-in-Some c).After-write_amended-n))
