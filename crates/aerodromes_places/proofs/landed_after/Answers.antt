-- `aerodromes_places::landed_after` meets its contract. Assumes nothing.
use mathlib.Core.Path.{◌≡◌, sym, ap, ◌∙◌}
use mathlib.Core.Bool.{true}
use Rattle.alphabet.specs.Text.{bytes}
use Rattle.text.specs.Words.{same}
use Rattle.shape.specs.Time.{clock_hours}
use Rattle.shape.proofs.Times.{by_time}
use Rattle.aerodromes.specs.Aerodromes.{aerodrome_of, joined}
use Rattle.aerodromes_places.proofs.Landed.{first_listed, first_unlisted}
use Rattle.aerodromes_places.proofs.landed_after.Goals.{After-same_bytes}
use Rattle.aerodromes_places.proofs.landed_after.Goals as goal

fits : (c : After-same_bytes) → joined clock_hours c.args.w.now ≡ true
fits c =
    let tried : c.is_time_of_day.result ≡ joined clock_hours c.args.w.now = by_time _ c.at_clock.ensures c.is_time_of_day.ensures in
    sym tried ∙ c.if-not-is_time_of_day.false

compared : (c : After-same_bytes) → same (aerodrome_of c.args.w.now) (bytes "ZZZZ") ≡ c.same_bytes.result
compared c =
    sym (c.same_bytes.ensures ∙ ap (λ v. same v (bytes "ZZZZ")) c.aerodrome_of.ensures)

pub returns-then-same_bytes : goal.returns-then-same_bytes
returns-then-same_bytes c =
    let k = (goal.at.returns-then-same_bytes c).After-same_bytes in
    rw c.in-Start.is (first_unlisted c.args.w.now (fits k) (compared k ∙ c.if-same_bytes.true))

pub returns-else-same_bytes : goal.returns-else-same_bytes
returns-else-same_bytes c =
    let k = (goal.at.returns-else-same_bytes c).After-same_bytes in
    rw c.in-Start.is (first_listed c.args.w.now (fits k) (compared k ∙ c.if-same_bytes.false))
