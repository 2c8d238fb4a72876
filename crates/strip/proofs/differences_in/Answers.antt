-- `strip::differences_in` meets its contract. Assumes nothing.
use mathlib.Core.Path.{◌≡◌, ap₂, ◌∙◌}
use mathlib.Core.Bool.{◌&&◌}
use mathlib.Core.List.{[]}
use lib.ListN.{take, get_or}
use Rattle.text.specs.Words.{Word, split, before, same}
use Rattle.dates.specs.Dates.{date_in}
use Rattle.strip.specs.Updating.{compares_date, other_day}
use Rattle.strip.proofs.differences_in.Goals.{After-date_differs, After-same_bytes, After-same_bytes-2, After-same_bytes-3}
use Rattle.strip.proofs.differences_in.Goals as goal

identification : (c : After-same_bytes) → c.same_bytes.result
    ≡ same (before 47 (get_or (split 45 c.args.plan.now) 1 [])) (before 47 (get_or (split 45 c.args.said.now) 1 []))
identification c =
    cc (
      c.same_bytes.ensures,
      c.identification-2.ensures,
      c.field-2.ensures,
      c.identification.ensures,
      c.field.ensures,
    )

aerodrome : (c : After-same_bytes-2) → c.same_bytes-2.result ≡ same (take 4 (get_or (split 45 c.args.plan.now) 5 []))
    (take 4 (get_or (split 45 c.args.said.now) 2 []))
aerodrome c =
    cc (
      c.same_bytes-2.ensures,
      c.aerodrome_of-2.ensures,
      c.aerodrome_of.ensures,
      c.field-theirs.ensures,
      c.field-ours.ensures,
    )

destination : (c : After-same_bytes-3) → c.same_bytes-3.result ≡ same (take 4 (get_or (split 45 c.args.plan.now) 7 []))
    (take 4 (get_or (split 45 c.args.said.now) 3 []))
destination c =
    cc (
      c.same_bytes-3.ensures,
      c.aerodrome_of-4.ensures,
      c.field-4.ensures,
      c.aerodrome_of-3.ensures,
      c.field-3.ensures,
    )

date : (c : After-date_differs) → c.date_differs.result ≡ (compares_date c.args.role && other_day (date_in (get_or (split 45 c.args.plan.now) 8 []))
    (date_in (get_or (split 45 c.args.said.now) 4 [])))
date c =
    c.date_differs.ensures
    ∙ ap₂ (λ (v w : Word). compares_date c.args.role && other_day (date_in v) (date_in w)) c.field-5.ensures c.field-6.ensures

pub returns : goal.returns
returns c =
    cc (
      identification (goal.at.returns c).After-same_bytes,
      aerodrome (goal.at.returns c).After-same_bytes-2,
      c.time_differs.ensures,
      c.field-theirs.ensures,
      c.field-ours.ensures,
      destination (goal.at.returns c).After-same_bytes-3,
      date (goal.at.returns c).After-date_differs,
    )
