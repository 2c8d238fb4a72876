-- `amending::put_entry` meets its contract. Assumes nothing.
use mathlib.Core.Path.{◌≡◌, sym, ap, ◌∙◌}
use mathlib.Core.Bool.{Bool, false, cond}
use mathlib.Core.List.{◌++◌}
use lib.ListN.{drop}
use Rattle.text.specs.Words.{Word}
use Rattle.canonical.proofs.Turns.{put_same, room_same}
use Rattle.force.specs.InForce.{put_in}
use Rattle.amending.proofs.put_entry.Goals.{After-behind_aerodrome, After-is_bare}
use Rattle.amending.proofs.put_entry.Goals as goal

as-tested : (c : After-is_bare) → {b : Bool} → c.is_bare.result ≡ b → cond b (c.args.content.now ++ drop 4 c.args.own.now) c.args.content.now
    ≡ ((put_in c.args.k c.args.content.now c.args.own.now))
as-tested c e =
    ap (λ (b : Bool). cond b (c.args.content.now ++ drop 4 c.args.own.now) c.args.content.now) (sym e ∙ c.is_bare.ensures)

kept : (c : After-is_bare) → c.is_bare.result ≡ false → c.args.content.now ≡ ((put_in c.args.k c.args.content.now c.args.own.now))
kept c e =
    (as-tested c) e

parts : (c : After-behind_aerodrome) → c.args.content.now ++ c.behind_aerodrome.result.now ≡ (put_in c.args.k c.args.content.now c.args.own.now)
parts c =
    ap (λ (w : Word). c.args.content.now ++ w) c.behind_aerodrome.ensures
    ∙ ap (λ (b : Bool). cond b (c.args.content.now ++ drop 4 c.args.own.now) c.args.content.now) (sym c.if-is_bare.true ∙ c.is_bare.ensures)

pub put_two-requires : goal.put_two-requires
put_two-requires c =
    room_same c.args.out.now (sym (parts (goal.at.put_two-requires c).After-behind_aerodrome)) c.requires

pub returns-then-is_bare : goal.returns-then-is_bare
returns-then-is_bare c =
    put_same c.args.out.now (parts (goal.at.returns-then-is_bare c).After-behind_aerodrome) c.put_two.ensures

pub put-requires : goal.put-requires
put-requires c =
    room_same c.args.out.now (sym (kept (goal.at.put-requires c).After-is_bare c.if-is_bare.false)) c.requires

pub returns : goal.returns
returns c =
    put_same c.args.out.now (kept (goal.at.returns c).After-is_bare c.if-is_bare.false) c.put.ensures
