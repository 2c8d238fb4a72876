-- `other_places::date_with` meets its contract. Assumes nothing.
use mathlib.Core.Path.{sym, ap, ◌∙◌}
use lib.ListN.{length, drop}
use Rattle.other.specs.Rules.{date}
use Rattle.other_places.proofs.Index.{date_over, held_two}
use Rattle.other_places.proofs.date_with.Goals as goal

pub returns-then-p-gt6 : goal.returns-then-p-gt6
returns-then-p-gt6 c =
    let a = c.args in
    sym (date_over a.p.now (drop (length a.p.now) a.others.now) c.if-p-gt6.true)

pub returns : goal.returns
returns c =
    let a = c.args in
    c.word_fits.ensures ∙ ap date (held_two a.p.now a.others.now _ _ _ c.requires c.put.ensures.1 c.put-2.ensures.1)
