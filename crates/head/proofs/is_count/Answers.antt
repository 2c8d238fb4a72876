-- `head::is_count` meets its contract. Assumes nothing.
use mathlib.Core.Path.{sym}
use native.Mathlib.Omega.{arith}
use Rattle.head.proofs.Laws.{count_none, count_one, count_two, count_more}
use Rattle.head.proofs.is_count.Goals as goal

pub returns-in-empty : goal.returns-in-empty
returns-in-empty c =
    sym (count_none c.args.w.now (omega arith))

pub returns-in-len1 : goal.returns-in-len1
returns-in-len1 c =
    sym (count_one c.args.w.now (omega arith))

pub returns-in-len2 : goal.returns-in-len2
returns-in-len2 c =
    sym (count_two c.args.w.now (omega arith))

pub returns-in_default : goal.returns-in_default
returns-in_default c =
    sym (count_more c.args.w.now c.in_default.len_at_least)
