-- `route_places::place_words` meets its contract. Assumes nothing.
use Rattle.std.proofs.Common.{rules, arith, ◌≡◌}
use Rattle.route_places.specs.Places.{route, word_place, route_place}
use Rattle.route_places.proofs.Places.{word_right}
use Rattle.route_places.proofs.place_words.Goals as goal

pub words_place-requires-clause-within : goal.words_place-requires-clause-within
words_place-requires-clause-within c k w r h =
    let e : r ≡ word_place k w.now = search rules in omega (arith, e, (word_right k w.now).within)

pub returns : goal.returns
unfolding route_place
returns c =
    c.words_place.ensures route.after route.final route.goes word_place (λ k w r h. search rules) (λ k r h. search rules) (λ k w r h. search rules)
