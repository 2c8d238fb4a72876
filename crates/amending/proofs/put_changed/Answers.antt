-- `amending::put_changed` meets its contract. Assumes nothing.
use Prim.Native.Nat.{ℕ}
use mathlib.Core.Path.{◌≡◌, sym, ap}
use mathlib.Core.Option.{Option}
use Rattle.std.specs.Prelude.{Some}
use Rattle.text.specs.Words.{Word}
use Rattle.canonical.proofs.Turns.{put_same, room_same}
use Rattle.force.specs.InForce.{changed_by, FoundIn}
use Rattle.force.proofs.Walk.{as_found}
use Rattle.amending.proofs.put_changed.Goals.{In-Some}
use Rattle.amending.proofs.put_changed.Goals as goal

-- the content, once it is known whether the text names the field
given_by : (k : ℕ) (own : Word) {o v : Option Word} → o ≡ v → changed_by k v own ≡ changed_by k o own
given_by k own e = sym (ap (λ (o : Option Word). changed_by k o own) e)

found : (c : In-Some) → FoundIn c.args.said.now c.args.k (Some c.in-Some.at)
found c =
    as_found _ _ c.named_from.ensures c.in-Some.is

pub named_from-requires : goal.named_from-requires
named_from-requires c =
    c.requires.0

pub slice_bounds-put_entry-count : goal.slice_bounds-put_entry-count
slice_bounds-put_entry-count c =
    (found (goal.at.slice_bounds-put_entry-count c).In-Some).0

pub slice_bounds-put_entry-start : goal.slice_bounds-put_entry-start
slice_bounds-put_entry-start c =
    (found (goal.at.slice_bounds-put_entry-start c).In-Some).0

pub slice_bounds-put_entry-end : goal.slice_bounds-put_entry-end
slice_bounds-put_entry-end c =
    (found (goal.at.slice_bounds-put_entry-end c).In-Some).1

pub put_entry-requires : goal.put_entry-requires
put_entry-requires c =
    room_same c.args.out.now (sym (given_by c.args.k c.args.own.now (found (goal.at.put_entry-requires c).In-Some).2)) c.requires.1

pub put-requires : goal.put-requires
put-requires c =
    let nowhere = (as_found _ _ c.named_from.ensures c.in-None.is).0 in
    room_same c.args.out.now (sym (given_by c.args.k c.args.own.now nowhere)) c.requires.1

pub returns-in-Some : goal.returns-in-Some
returns-in-Some c =
    let a = c.args in
    put_same a.out.now (given_by a.k a.own.now (found (goal.at.returns-in-Some c).In-Some).2) c.put_entry.ensures

pub returns-in-None : goal.returns-in-None
returns-in-None c =
    let nowhere = (as_found _ _ c.named_from.ensures c.in-None.is).0 in
    put_same c.args.out.now (given_by c.args.k c.args.own.now nowhere) c.put.ensures
