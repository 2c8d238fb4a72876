-- `other::past_free` meets its contract. Assumes nothing.
use Prim.Native.Nat.{◌-◌}
use mathlib.Core.Path.{◌≡◌, ap, ◌∙◌}
use lib.ListN.{take, drop}
use native.Mathlib.Omega.{arith}
use Rattle.text.specs.Words.{after, all}
use Rattle.other.specs.declared.Rule.{Rule}
use Rattle.other.specs.Rules.{more_fits}
use Rattle.other.proofs.Plain.{past_words}
use Rattle.other.proofs.past_free.Goals as goal

pub last_space-requires : goal.last_space-requires
last_space-requires c =
    (c.plain_to.ensures.lower_bound.0, c.plain_to.ensures.lower_bound.2)

pub returns-in-Free : goal.returns-in-Free
returns-in-Free c =
    let a = c.args in let p = c.plain_to in let l = c.last_space in let q = l.ensures in let r =
    past_words a.s.now a.e p.result l.result c.requires.0 c.requires.1 p.ensures.s_value p.ensures.lower_bound.2 q.0 q.1 q.2 in
    record { s_value = ap (λ (x : Rule). all (more_fits x) (after 32 (take (l.result - a.e) (drop a.e a.s.now)))) c.in-Free.is ∙ r.0; lower_bound = r.1 }

pub returns : goal.returns
returns c =
    let n : c.args.e - c.args.e ≡ 0 = omega arith in record { s_value = rw n; lower_bound = (omega arith, c.requires.0, c.requires.1) }
