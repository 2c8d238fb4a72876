-- `strip::time_differs` meets its contract. Assumes nothing.
use mathlib.Core.Path.{sym, ◌∙◌}
use Rattle.strip.proofs.time_differs.Goals as goal

pub returns-then-not-compares_time : goal.returns-then-not-compares_time
returns-then-not-compares_time c =
    rw (sym c.compares_time.ensures ∙ c.if-not-compares_time.true)

pub returns : goal.returns
returns c =
    let compared = sym c.compares_time.ensures ∙ c.if-not-compares_time.false in
    rw (compared, ← c.behind_aerodrome-2.ensures, ← c.behind_aerodrome.ensures, c.same_bytes.ensures)
