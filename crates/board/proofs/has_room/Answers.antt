-- `board::has_room` meets its contract. Assumes nothing.
use mathlib.Core.Path.{◌∙◌}
use Rattle.board.proofs.Turns.{room_is}
use Rattle.board.proofs.has_room.Goals as goal

pub returns : goal.returns
returns c =
    c.has_room.ensures
    ∙ room_is c.args.f _ c.args.board.places _ _ _ c.other.ensures c.held_by-theirs.ensures c.beyond_sure.ensures
    c.held_by.ensures
