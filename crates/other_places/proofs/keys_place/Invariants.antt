use Rattle.std.proofs.Common.{◌≡◌, ◌+◌, ◌*◌}
use Rattle.text.proofs.Index.{cells_from}
use Rattle.places.specs.Parts.{larger}
use Rattle.entries.specs.Entries.{entries_place}
use Rattle.other.specs.Stated.{stated}
use Rattle.other_places.specs.Places.{later_keys, keys_place}
use Rattle.other_places.proofs.keys_place.Given as goal

abbrev pub invariant-loop-i : goal.invariant-loop-i
invariant-loop-i l =
    keys_place (stated l.edition) l.k l.w
    ≡ larger l.best (entries_place (later_keys (stated l.edition) l.k (l.i + 1) (cells_from (l.i + 1) 4 (4 * l.i) l.edition.keys.now)) l.w)
