-- `message::read_explained` meets its contract. Assumes nothing.
use Rattle.std.specs.Prelude.{Ok}
use Rattle.message.specs.Reading.{room_as, fault_as}
use mathlib.Core.Path.{◌≡◌, refl, sym, ◌∙◌}
use lib.ListN.{length}
use Rattle.message.proofs.Steps.{left_unexplained, none_unexplained, no_plan}
use Rattle.plan.proofs.Laws.{numbered_none, numbered_some}
use Rattle.message.proofs.Plans.{nine_contents}
use Rattle.message.proofs.read_explained.Goals.{then-is_plan+in_default, else-is_plan}
use Rattle.message.proofs.read_explained.Goals as goal

pub unexplained_by-requires : goal.unexplained_by-requires
unexplained_by-requires c =
    let a = c.args in
    let k = c.requires in
    (k.1, nine_contents a.t a.count a.s.now (sym c.is_plan.ensures ∙ c.if-is_plan.true) k.0.even)

pub returns-in-Some : goal.returns-in-Some
returns-in-Some c =
    let plan = sym c.is_plan.ensures ∙ c.if-is_plan.true in
    let n = numbered_some _ _ (sym c.unexplained_by.ensures ∙ c.in-Some.is) in
    rw (
      left_unexplained _ _ _ _ c.requires.0 (length c.args.out.now) _ plan n.0 n.1,
      ← c.place_in_plan.ensures,
      ← c.place_of_hyphen.ensures,
    ) (refl, refl)

pub read_room-requires : goal.read_room-requires
read_room-requires c =
    c.requires

pub returns : goal.returns
returns c =
    let same : fault_as (Ok tt) c.args.t c.args.msg.now (length c.args.out.now) ≡ room_as c.args.t c.args.msg.now (length c.args.out.now) =
    elim c.if-is_plan.branch [
      | then-is_plan+in_default w ↦
          none_unexplained _ _ _ _ c.requires.0 (length c.args.out.now) _ (sym c.is_plan.ensures ∙ w.if-is_plan.true) refl
          (numbered_none _ (sym w.unexplained_by.ensures ∙ w.in_default.is))
      | else-is_plan w ↦ no_plan _ _ _ _ c.requires.0 (length c.args.out.now) (sym c.is_plan.ensures ∙ w.if-is_plan.false)
    ]
    in
    rw same c.read_room.ensures
