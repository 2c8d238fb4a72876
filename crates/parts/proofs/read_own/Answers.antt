-- `parts::read_own` meets its contract. Assumes nothing.
use Prim.Native.Nat.{◌≤◌}
use mathlib.Core.Path.{◌≡◌, sym, ap, ◌∙◌}
use native.Mathlib.Omega.{arith}
use lib.ListN.{length, take}
use lib.Seq.{length-take-le}
use Rattle.message.specs.Reading.{spelling_of, answer_of}
use Rattle.opening.proofs.Steps.{front_whole, read_bounds, read_long, read_front}
use Rattle.std.proofs.lemmas.Result.{err_from_is_err_and}
use Rattle.parts.proofs.Answers.{not_taken, was-taken}
use Rattle.parts.proofs.read_own.Goals.{In_ok-t}
use Rattle.parts.proofs.read_own.Goals as goal
use Rattle.std.specs.Prelude.{Ok}

read_so : (c : In_ok-t) → answer_of c.args.m.now 1800 ≡ Ok (c.in_ok-t.t, c.in_ok-t.n)
read_so c =
    sym c.read.ensures.0 ∙ c.in_ok-t.was

inside : (c : In_ok-t) → c.in_ok-t.n ≤ length c.read.new.out
inside c =
    omega (arith, (read_bounds c.args.m.now 1800 _ _ (read_so c)).1, c.read.auto.out)

spelling-there : (c : In_ok-t) → take c.in_ok-t.n c.read.new.out ≡ spelling_of c.in_ok-t.t c.args.m.now
spelling-there c =
    ap (take c.in_ok-t.n) (c.read.ensures.1 ∙ read_front c.args.m.now _ _ _ (read_so c))
    ∙ front_whole (spelling_of c.in_ok-t.t c.args.m.now) _ c.in_ok-t.n (read_long c.args.m.now 1800 _ _ (read_so c))

pub slice_bounds-scratch-end : goal.slice_bounds-scratch-end
slice_bounds-scratch-end c =
    inside (goal.at.slice_bounds-scratch-end c).In_ok-t

pub slice_bounds-same_bytes-end : goal.slice_bounds-same_bytes-end
slice_bounds-same_bytes-end c =
    sym (length-take-le _ _ (inside (goal.at.slice_bounds-same_bytes-end c).In_ok-t))

pub returns-in_err-t : goal.returns-in_err-t
returns-in_err-t c =
    let p = err_from_is_err_and c.from_residual.result c.from_residual.ensures.1 in
    rw (p.1, p.2) (not_taken c.args.m.now _ _ _ (sym c.read.ensures.0 ∙ c.in_err-t.was))

pub returns : goal.returns
returns c =
    was-taken c.args.m.now _ _ (read_so (goal.at.returns c).In_ok-t) _ (spelling-there (goal.at.returns c).In_ok-t) _
    c.same_bytes.ensures
