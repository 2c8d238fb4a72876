-- `lines::line` meets its contract. Assumes nothing.
use Prim.Native.Nat.{ℕ, ◌+◌, ◌<◌}
use mathlib.Core.Path.{◌≡◌, sym, subst}
use mathlib.Core.List.{List}
use native.Mathlib.Omega.{arith}
use lib.ListN.{length}
use Rattle.lines.specs.declared.Told.{Told}
use Rattle.lines.specs.Lines.{no_room, Tells}
use Rattle.lines.proofs.Steps.{none_told}
use Rattle.lines.proofs.line.Goals as goal

nothing : (m out : List ℕ) (r : Told) → r ≡ no_room → length out < length m + 12 → Tells m out r out
nothing m out r e h = subst (λ (x : Told). Tells m out x out) (sym e) (none_told m out h)

pub returns-then-out-lt-LINE_MORE : goal.returns-then-out-lt-LINE_MORE
returns-then-out-lt-LINE_MORE c = nothing _ _ _ c.no_room.ensures (omega (arith, c.if-out-lt-LINE_MORE.true))

pub returns-then-out-piece : goal.returns-then-out-piece
returns-then-out-piece c =
    nothing _ _ _ c.no_room-then-out-piece.ensures (omega (arith, c.if-out-lt-LINE_MORE.false, c.if-out-piece.true))
