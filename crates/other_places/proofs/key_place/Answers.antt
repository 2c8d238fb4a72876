-- `other_places::key_place` meets its contract. Assumes nothing.
use Rattle.std.proofs.Common.{rules, arith, ◌≡◌}
use Rattle.text.specs.Words.{same}
use Rattle.entries.specs.Entries.{matched}
use Rattle.other_places.specs.Places.{rule_place}
use Rattle.other_places.proofs.Index.{rule_within}
use Rattle.other_places.proofs.key_place.Goals as goal

pub cut_place-requires-clause-within : goal.cut_place-requires-clause-within
cut_place-requires-clause-within c w r h =
    let e : r ≡ rule_place c.args.rule w.now = search rules in omega (arith, e, rule_within c.args.rule w.now)

pub returns : goal.returns
returns c =
    c.cut_place.ensures (same c.args.key.now) (matched c.args.key.now) (rule_place c.args.rule)
    (λ w r h. search rules) (λ w r h. search rules) (λ w r h. search rules)
