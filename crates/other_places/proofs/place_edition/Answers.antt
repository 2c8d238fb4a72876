-- `other_places::place_edition` meets its contract. Assumes nothing.
use Rattle.std.proofs.Common.{rules, arith, ◌≡◌}
use Rattle.other.specs.Stated.{stated}
use Rattle.other_places.specs.Places.{items, items_word, items_place}
use Rattle.other_places.proofs.Index.{item_within}
use Rattle.other_places.proofs.place_edition.Goals as goal

pub words_place-requires-clause-within : goal.words_place-requires-clause-within
words_place-requires-clause-within c k w r h =
    let ed = stated c.args.edition in
    let e : r ≡ items_word ed k w.now = search rules in omega (arith, e, item_within ed c.args.edition.sound k w.now)

pub returns : goal.returns
unfolding items_place
returns c =
    let ed = stated c.args.edition in
    c.words_place.ensures (items ed).after (items ed).final (items ed).goes (items_word ed)
    (λ k w r h. search rules) (λ k r h. search rules) (λ k w r h. search rules)
