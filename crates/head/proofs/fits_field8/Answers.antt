-- `head::fits_field8` meets its contract. Assumes nothing.
use mathlib.Core.Path.{sym, ◌∙◌}
use native.Mathlib.Omega.{arith}
use Rattle.head.proofs.Laws.{rules_one, rules_two, rules_other}
use Rattle.head.proofs.fits_field8.Goals as goal

pub returns-in-len1 : goal.returns-in-len1
returns-in-len1 c =
    c.is_rules.ensures ∙ sym (rules_one c.args.s.now (omega arith))

pub returns-then-is_rules : goal.returns-then-is_rules
returns-then-is_rules c =
    rw (rules_two c.args.s.now (omega arith), sym c.is_rules-in-len2.ensures ∙ c.if-is_rules.true) c.one_of.ensures

pub returns-else-is_rules : goal.returns-else-is_rules
returns-else-is_rules c =
    rw (rules_two c.args.s.now (omega arith), sym c.is_rules-in-len2.ensures ∙ c.if-is_rules.false) c.if-is_rules.false

pub returns-in_default : goal.returns-in_default
returns-in_default c =
    sym (rules_other c.args.s.now (λ e. omega arith) (λ e. omega arith))

pub returns-in_default-2 : goal.returns-in_default-2
returns-in_default-2 c =
    sym (rules_other c.args.s.now (λ e. omega arith) (λ e. omega arith))
