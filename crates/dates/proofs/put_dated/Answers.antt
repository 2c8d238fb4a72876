-- `dates::put_dated` meets its contract. Assumes nothing.
use mathlib.Core.Path.{◌≡◌, sym, subst}
use lib.Seq.{length-take-le}
use Rattle.canonical.proofs.Turns.{put_same, room_same}
use Rattle.dates.specs.declared.Place.{Place}
use Rattle.dates.specs.declared.Place.TheVariants.{Instead, Before, Last}
use Rattle.dates.specs.Dates.{DatePlace}
use Rattle.dates.proofs.Walk.{written_instead, written_before, written_last}
use Rattle.dates.proofs.put_dated.Goals.{After-place_of, In-Before, In-Instead}
use Rattle.dates.proofs.put_dated.Goals as goal

at_place : (c : After-place_of) → (p : Place) → c.place_of.result ≡ p → DatePlace c.args.own.now p
at_place c p e =
    subst (DatePlace c.args.own.now) e c.place_of.ensures

instead : (c : In-Instead) → DatePlace c.args.own.now (Instead c.in-Instead.from c.in-Instead.to)
instead c =
    let at_place : (p : Place) → c.place_of.result ≡ p → DatePlace c.args.own.now p = λ p e. subst (DatePlace c.args.own.now) e c.place_of.ensures in
    at_place (Instead c.in-Instead.from c.in-Instead.to) c.in-Instead.is

before-it : (c : In-Before) → DatePlace c.args.own.now (Before c.in-Before.at)
before-it c =
    let at_place : (p : Place) → c.place_of.result ≡ p → DatePlace c.args.own.now p = λ p e. subst (DatePlace c.args.own.now) e c.place_of.ensures in
    at_place (Before c.in-Before.at) c.in-Before.is

pub slice_bounds-put_around-end : goal.slice_bounds-put_around-end
slice_bounds-put_around-end c =
    sym (length-take-le c.in-Instead.from c.args.own.now (instead (goal.at.slice_bounds-put_around-end c).In-Instead).inside.0)

pub slice_bounds-put_around-count : goal.slice_bounds-put_around-count
slice_bounds-put_around-count c =
    (instead (goal.at.slice_bounds-put_around-count c).In-Instead).inside.1

pub slice_bounds-put_around-start : goal.slice_bounds-put_around-start
slice_bounds-put_around-start c =
    (instead (goal.at.slice_bounds-put_around-start c).In-Instead).inside.1

pub put_around-requires : goal.put_around-requires
put_around-requires c =
    room_same c.args.out.now
    (sym (written_instead c.args.own.now c.args.date.now c.in-Instead.from c.in-Instead.to (instead (goal.at.put_around-requires c).In-Instead))) c.requires

pub slice_bounds-put_around-count-in-Before : goal.slice_bounds-put_around-count-in-Before
slice_bounds-put_around-count-in-Before c =
    (before-it (goal.at.slice_bounds-put_around-count-in-Before c).In-Before).inside

pub slice_bounds-put_around-start-in-Before : goal.slice_bounds-put_around-start-in-Before
slice_bounds-put_around-start-in-Before c =
    (before-it (goal.at.slice_bounds-put_around-start-in-Before c).In-Before).inside

pub put_around-requires-in-Before : goal.put_around-requires-in-Before
put_around-requires-in-Before c =
    room_same c.args.out.now
    (sym (written_before c.args.own.now c.args.date.now c.in-Before.at (before-it (goal.at.put_around-requires-in-Before c).In-Before))) c.requires

pub put_around-requires-in-Last : goal.put_around-requires-in-Last
put_around-requires-in-Last c =
    room_same c.args.out.now
    (sym (written_last c.args.own.now c.args.date.now (at_place (goal.at.put_around-requires-in-Last c).After-place_of Last c.in-Last.is))) c.requires

pub returns-in-Instead : goal.returns-in-Instead
returns-in-Instead c =
    put_same c.args.out.now (written_instead c.args.own.now c.args.date.now c.in-Instead.from c.in-Instead.to
    (instead (goal.at.returns-in-Instead c).In-Instead)) c.put_around.ensures

pub returns-in-Before : goal.returns-in-Before
returns-in-Before c =
    put_same c.args.out.now (written_before c.args.own.now c.args.date.now c.in-Before.at (before-it (goal.at.returns-in-Before c).In-Before))
    c.put_around-in-Before.ensures

pub returns-in-Last : goal.returns-in-Last
returns-in-Last c =
    put_same c.args.out.now (written_last c.args.own.now c.args.date.now (at_place (goal.at.returns-in-Last c).After-place_of Last c.in-Last.is))
    c.put_around-in-Last.ensures
