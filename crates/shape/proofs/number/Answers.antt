-- `shape::number` meets its contract. Assumes nothing.
use Rattle.std.proofs.Common.{rules, arith, ◌≡◌, ◌<◌, ◌≤◌, ◌^◌, length, get_or}
use Rattle.shape.proofs.Numbers.{value_more, bound_more, four_digits_pow}
use Rattle.shape.proofs.number.Goals as goal

pub overflow_mul-n : goal.overflow_mul-n
overflow_mul-n c =
    let p : 10 ^ c.loop-b.b-index ≤ 10000 = four_digits_pow c.loop-b.b-index (omega arith) in
    search rules

pub overflow_add-n : goal.overflow_add-n
overflow_add-n c =
    let p : 10 ^ c.loop-b.b-index ≤ 10000 = four_digits_pow c.loop-b.b-index (omega arith) in
    search rules

pub loop-b-preserved : goal.loop-b-preserved
loop-b-preserved c =
    let l = c.loop-b in
    let s = c.args.digits.now in
    let b : get_or s l.b-index 0 < 256 = search (rules, c.type_inv.digits l.b-index) in (
      omega arith,
      omega (arith, value_more s l.b-index (omega arith)),
      bound_more l.n c.one.result l.b-index l.invariant.2 (omega (arith, b)),
    )

pub returns-clause-bound : goal.returns-clause-bound
returns-clause-bound c =
    let e : c.loop-b.b-index ≡ length c.args.digits.now = omega arith in rw e at c.loop-b.invariant.2
