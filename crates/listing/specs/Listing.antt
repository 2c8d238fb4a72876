-- What the listing prints (document 01, "The listing program"): the lines of its input's pieces. Assumes nothing.
use Rattle.std.specs.Prelude.{ℕ, List}
use Rattle.pieces.specs.Pieces.{pieces_of}
use Rattle.lines.specs.Lines.{line_of, each}

abbrev pub listed : List ℕ → List ℕ
listed s = each line_of (pieces_of s)
