-- The bytes up to a place are taken; the line of those behind it is the line of all.
use Rattle.std.proofs.Common.{◌≡◌, ◌≤◌, length, take, drop}
use Rattle.journal.specs.Lines.{line_from, count, waits_in}
use Rattle.journal.proofs.scan.Given as goal

abbrev pub invariant-loop-i : goal.invariant-loop-i
invariant-loop-i l =
    (l.got ≤ 4096) × (length l.chunk ≡ 4096) × (count l.waiting ≤ 4096) × (length l.line ≡ 4096)
    × (line_from (waits_in l.waiting l.line) (drop l.i (take l.got l.chunk))
    ≡ line_from (waits_in l.initial.waiting l.initial.line) (drop l.fn.reader.at (take l.got l.chunk)))
