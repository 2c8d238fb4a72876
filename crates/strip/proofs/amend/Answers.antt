-- `strip::amend` meets its contract. Assumes nothing.
use Prim.Native.Nat.{ℕ, ◌-◌, ◌≤◌}
use mathlib.Core.Path.{◌≡◌, refl, sym, ap, ◌∙◌}
use mathlib.Core.List.{List}
use native.Mathlib.Omega.{arith}
use lib.ListN.{length, take, drop}
use lib.Seq.{length-take-le}
use Rattle.text.specs.Words.{Word, split}
use Rattle.plan.specs.Unexplained.{numbered}
use Rattle.plan.proofs.Laws.{numbered_none, numbered_some}
use Rattle.canonical.proofs.Turns.{put_same}
use Rattle.message.specs.Reading.{unexplained_in}
use Rattle.opening.proofs.Steps.{front_whole, front_text}
use Rattle.amending.specs.Amended.{amended, new_strip}
use Rattle.amending.proofs.Room.{new_room, new_two, new_cut}
use Rattle.strip.proofs.Answers.{left_unexplained, too_long, no_room_lem, fits-room}
use Rattle.strip.proofs.amend.Goals.{After-unexplained_in, After-write_amended-n}
use Rattle.strip.proofs.amend.Goals as goal

long : (c : After-write_amended-n) → c.write_amended-n.result ≡ length ((new_strip c.args.role c.args.plan.now c.args.said.now))
long c =
    c.write_amended-n.ensures.0

two : (c : After-write_amended-n) → 2 ≤ c.write_amended-n.result
two c =
    omega (arith, (long c), new_two c.args.plan.now c.args.said.now c.args.role)

inside : (c : After-write_amended-n) → c.write_amended-n.result ≤ length c.write_amended-n.new.out
inside c =
    let fits = new_room c.args.plan.now c.args.said.now c.args.role c.requires.0 in
    omega (arith, (long c), fits, c.requires.1, c.requires.2, c.write_amended-n.auto.out)

whole_there : (c : After-write_amended-n) → take c.write_amended-n.result c.write_amended-n.new.out ≡ ((new_strip c.args.role c.args.plan.now c.args.said.now))
whole_there c =
    ap (take c.write_amended-n.result) c.write_amended-n.ensures.1 ∙ front_whole ((new_strip c.args.role c.args.plan.now c.args.said.now)) _
    c.write_amended-n.result (long c)

field_is : (c : After-unexplained_in) → c.unexplained_in.result ≡ numbered (unexplained_in (amended c.args.role c.args.plan.now c.args.said.now))
field_is c =
    let long : c.write_amended-n.result ≡ length ((new_strip c.args.role c.args.plan.now c.args.said.now)) = c.write_amended-n.ensures.0 in
    let two : 2 ≤ c.write_amended-n.result = omega (arith, long, new_two c.args.plan.now c.args.said.now c.args.role) in
    let text_there : split 45 (take (c.write_amended-n.result - 1 - 1) (drop 1 c.write_amended-n.new.out))
    ≡ amended c.args.role c.args.plan.now c.args.said.now = ap (λ (w : List ℕ). split 45 (take (c.write_amended-n.result - 1 - 1) (drop 1 w)))
    c.write_amended-n.ensures.1
    ∙ ap (split 45) (front_text ((new_strip c.args.role c.args.plan.now c.args.said.now)) _ c.write_amended-n.result long two)
    ∙ new_cut c.args.plan.now c.args.said.now c.args.role in
    c.unexplained_in.ensures ∙ ap (λ (cs : List Word). numbered (unexplained_in cs)) text_there

pub write_amended-n-requires : goal.write_amended-n-requires
write_amended-n-requires c =
    omega (arith, new_room c.args.plan.now c.args.said.now c.args.role c.requires.0, c.requires.1, c.requires.2)

pub overflow_sub-e : goal.overflow_sub-e
overflow_sub-e c =
    omega (arith, two (goal.at.overflow_sub-e c).After-write_amended-n)

pub slice_bounds-unexplained_in-count : goal.slice_bounds-unexplained_in-count
slice_bounds-unexplained_in-count c =
    omega (arith, two (goal.at.slice_bounds-unexplained_in-count c).After-write_amended-n)

pub slice_bounds-unexplained_in-start : goal.slice_bounds-unexplained_in-start
slice_bounds-unexplained_in-start c =
    omega (arith, two (goal.at.slice_bounds-unexplained_in-start c).After-write_amended-n)

pub slice_bounds-unexplained_in-end : goal.slice_bounds-unexplained_in-end
slice_bounds-unexplained_in-end c =
    omega (arith, inside (goal.at.slice_bounds-unexplained_in-end c).After-write_amended-n)

pub returns-in-Some : goal.returns-in-Some
returns-in-Some c =
    let a = c.args in
    let n = numbered_some _ _ (sym (field_is (goal.at.returns-in-Some c).After-unexplained_in) ∙ c.in-Some.is) in
    left_unexplained a.role a.plan.now a.said.now a.next a.out.now _ n.0 n.1

pub returns-then-n-gt-MOST_BYTES : goal.returns-then-n-gt-MOST_BYTES
returns-then-n-gt-MOST_BYTES c =
    let a = c.args in
    rw c.of.ensures (too_long a.role a.plan.now a.said.now a.next a.out.now _ refl
    (numbered_none _ (sym (field_is (goal.at.returns-then-n-gt-MOST_BYTES c).After-unexplained_in) ∙ c.in_default.is)) _
    (long (goal.at.returns-then-n-gt-MOST_BYTES c).After-write_amended-n) c.if-n-gt-MOST_BYTES.true)

pub returns-then-out-n : goal.returns-then-out-n
returns-then-out-n c =
    let a = c.args in
    rw c.of-then-out-n.ensures (no_room_lem a.role a.plan.now a.said.now a.next a.out.now _ refl
    (numbered_none _ (sym (field_is (goal.at.returns-then-out-n c).After-unexplained_in) ∙ c.in_default.is)) _
    (long (goal.at.returns-then-out-n c).After-write_amended-n)
    (omega (arith, c.if-n-gt-MOST_BYTES.false)) c.if-out-n.true)

pub slice_bounds-new-end : goal.slice_bounds-new-end
slice_bounds-new-end c =
    inside (goal.at.slice_bounds-new-end c).After-write_amended-n

pub slice_bounds-put-end : goal.slice_bounds-put-end
slice_bounds-put-end c =
    sym (length-take-le _ _ (inside (goal.at.slice_bounds-put-end c).After-write_amended-n))

pub put-written-requires : goal.put-written-requires
put-written-requires c =
    omega (
      arith,
      ap length (whole_there (goal.at.put-written-requires c).After-write_amended-n),
      long (goal.at.put-written-requires c).After-write_amended-n,
      c.if-out-n.false,
    )

pub returns : goal.returns
returns c =
    let a = c.args in
    let put = put_same a.out.now (whole_there (goal.at.returns c).After-write_amended-n) c.put-written.ensures in
    fits-room a.role a.plan.now a.said.now a.next a.out.now _ refl
    (numbered_none _ (sym (field_is (goal.at.returns c).After-unexplained_in) ∙ c.in_default.is))
    _ put.0 (omega (arith, put.0, long (goal.at.returns c).After-write_amended-n, c.if-n-gt-MOST_BYTES.false))
    (omega (arith, put.0, long (goal.at.returns c).After-write_amended-n, c.if-out-n.false)) _ put.1
