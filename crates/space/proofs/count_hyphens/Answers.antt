use Prim.Native.Nat.{◌+◌, ◌*◌, ◌/◌}
use mathlib.Core.Path.{◌≡◌}
use lib.ListN.{length, drop}
use Rattle.space.specs.Hyphens.{hyphens}
use Rattle.space.proofs.Index.{part_counted, rest_counted, hyphens_le}
use native.Mathlib.Omega.{arith}
use Rattle.space.proofs.count_hyphens.Goals.{After-few_hyphens, After-few_hyphens-2}
use Rattle.space.proofs.count_hyphens.Goals as goal

more : (c : After-few_hyphens) → c.loop-k.n + c.few_hyphens.result + hyphens (drop (224 * c.loop-k.k + 224) c.args.msg.now) ≡ hyphens c.args.msg.now
more c =
    let l = c.loop-k in part_counted c.args.msg.now l.n (224 * l.k) l.invariant.1 _ (224 * l.k + 224) (omega arith) c.few_hyphens.ensures

all : (c : After-few_hyphens-2) → c.loop-k.n + c.few_hyphens-2.result ≡ hyphens c.args.msg.now
all c =
    let l = c.loop-k in
    let e : length c.args.msg.now / 224 ≡ l.k = omega (arith, l.invariant.0, c.loop-k-test.false) in
    rest_counted c.args.msg.now l.n (224 * l.k) l.invariant.1 _ (rw e at c.few_hyphens-2.ensures)

pub overflow_add-n : goal.overflow_add-n
overflow_add-n c =
    omega (arith, more (goal.at.overflow_add-n c).After-few_hyphens, hyphens_le c.args.msg.now)

pub loop-k-preserved : goal.loop-k-preserved
loop-k-preserved c =
    let z : 224 * (c.loop-k.k + 1) ≡ 224 * c.loop-k.k + 224 = omega arith in
    rw z (omega arith, more (goal.at.loop-k-preserved c).After-few_hyphens)

pub overflow_add-result : goal.overflow_add-result
overflow_add-result c =
    omega (arith, all (goal.at.overflow_add-result c).After-few_hyphens-2, hyphens_le c.args.msg.now)

pub returns : goal.returns
returns c =
    all (goal.at.returns c).After-few_hyphens-2
