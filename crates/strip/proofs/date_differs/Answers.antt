-- `strip::date_differs` meets its contract. Assumes nothing.
use mathlib.Core.Path.{◌≡◌, refl, sym, ap, ap₂, ◌∙◌}
use mathlib.Core.Bool.{Bool, true, false, ◌&&◌, not}
use lib.ListN.{length}
use Rattle.text.specs.Words.{Word, null, same}
use Rattle.amending.proofs.Dated.{null_none, null_some}
use Rattle.dates.specs.Dates.{date_in}
use Rattle.strip.specs.Updating.{compares_date, other_day}
use Rattle.strip.proofs.date_differs.Goals.{After-date_word-ours, After-date_word-theirs}
use Rattle.strip.proofs.date_differs.Goals as goal

-- two dates, as the tests say
ours-none : (b : Bool) (v w : Word) → null v ≡ true → false ≡ (b && other_day v w)
ours-none true v w e = rw e
ours-none false v w e = refl

theirs-none : (b : Bool) (v w : Word) → null v ≡ false → null w ≡ true → false ≡ (b && other_day v w)
theirs-none true v w d e = rw (d, e)
theirs-none false v w d e = refl

both-there : (b : Bool) (v w : Word) → b ≡ true → null v ≡ false → null w ≡ false → not (same v w) ≡ (b && other_day v w)
both-there b v w c d e = rw (c, d, e)

-- a date, once it is looked up
none_there : (w v : Word) → w ≡ v → length w ≡ 0 → null v ≡ true
none_there w v e h = ap null (sym e) ∙ null_none w h

some-there : (w v : Word) → w ≡ v → (length w ≡ 0 → ⊥) → null v ≡ false
some-there w v e h = ap null (sym e) ∙ null_some w h

is_ours : (c : After-date_word-ours) → c.date_word-ours.result.now ≡ ((date_in c.args.a.now))
is_ours c =
    c.date_word-ours.ensures

is-theirs : (c : After-date_word-theirs) → c.date_word-theirs.result.now ≡ ((date_in c.args.b.now))
is-theirs c =
    c.date_word-theirs.ensures

ours-there : (c : After-date_word-theirs) → null (date_in c.args.a.now) ≡ false
ours-there c =
    let is_ours : c.date_word-ours.result.now ≡ ((date_in c.args.a.now)) = c.date_word-ours.ensures in
    some-there c.date_word-ours.result.now (date_in c.args.a.now) is_ours c.if-ours-eq0.false

pub returns-then-not-compares_date : goal.returns-then-not-compares_date
returns-then-not-compares_date c =
    rw (sym c.compares_date.ensures ∙ c.if-not-compares_date.true)

pub returns-then-ours-eq0 : goal.returns-then-ours-eq0
returns-then-ours-eq0 c =
    let a = c.args in
    ours-none (compares_date a.role) (date_in c.args.a.now) (date_in a.b.now)
    (none_there c.date_word-ours.result.now (date_in c.args.a.now) (is_ours (goal.at.returns-then-ours-eq0 c).After-date_word-ours) c.if-ours-eq0.true)

pub returns-then-theirs-eq0 : goal.returns-then-theirs-eq0
returns-then-theirs-eq0 c =
    theirs-none (compares_date c.args.role) (date_in c.args.a.now) (date_in c.args.b.now)
    (ours-there (goal.at.returns-then-theirs-eq0 c).After-date_word-theirs)
    (none_there c.date_word-theirs.result.now (date_in c.args.b.now) (is-theirs (goal.at.returns-then-theirs-eq0 c).After-date_word-theirs)
    c.if-theirs-eq0.true)

pub returns : goal.returns
returns c =
    ap not (c.same_bytes.ensures ∙ ap₂ same (is_ours (goal.at.returns c).After-date_word-ours) (is-theirs (goal.at.returns c).After-date_word-theirs))
    ∙ both-there (compares_date c.args.role) (date_in c.args.a.now) (date_in c.args.b.now)
    (sym c.compares_date.ensures ∙ c.if-not-compares_date.false) (ours-there (goal.at.returns c).After-date_word-theirs)
    (some-there c.date_word-theirs.result.now (date_in c.args.b.now) (is-theirs (goal.at.returns c).After-date_word-theirs) c.if-theirs-eq0.false)
