-- `lines::put_refused` meets its contract. Assumes nothing.
use native.Mathlib.Omega.{arith}
use Rattle.lines.specs.Lines.{refused_line}
use Rattle.lines.proofs.Refusals.{number_fits, field_fits, place_fits, all_told}
use Rattle.lines.proofs.put_refused.Goals as goal

pub put-o-requires : goal.put-o-requires
unfolding refused_line
put-o-requires c = omega (arith, c.requires)

pub put_number-p-requires : goal.put_number-p-requires
put_number-p-requires c = number_fits _ c.args.refusal.field c.args.refusal.place _ c.requires _ _ c.put-o.ensures.0 c.put-o.ensures.1

pub put_number-q-requires : goal.put_number-q-requires
put_number-q-requires c =
    field_fits _ _ c.args.refusal.place _ c.requires _ _ c.put-o.ensures.0 c.put-o.ensures.1 _ _ c.put_number-p.ensures.0 c.put_number-p.ensures.1

pub put_number-requires : goal.put_number-requires
put_number-requires c =
    place_fits _ _ _ _ c.requires _ _ c.put-o.ensures.0 c.put-o.ensures.1 _ _ c.put_number-p.ensures.0 c.put_number-p.ensures.1
    _ _ c.put_number-q.ensures.0 c.put_number-q.ensures.1

pub returns : goal.returns
returns c =
    all_told _ _ _ _ c.requires _ _ c.put-o.ensures.0 c.put-o.ensures.1 _ _ c.put_number-p.ensures.0 c.put_number-p.ensures.1
    _ _ c.put_number-q.ensures.0 c.put_number-q.ensures.1 _ _ c.put_number.ensures.0 c.put_number.ensures.1
