-- `amending::put_delayed` meets its contract. Assumes nothing.
use Prim.Native.Nat.{ℕ}
use mathlib.Core.Path.{◌≡◌, sym, ap, ap₂, ◌∙◌}
use mathlib.Core.List.{List, ◌++◌}
use lib.ListN.{take, drop}
use borrow.Author.Tests.{eq-eqb, ne_eqb}
use Rattle.text.specs.Words.{Word}
use Rattle.canonical.proofs.Turns.{put_same, room_same}
use Rattle.kinds.specs.declared.Role.TheVariants.{Delays}
use Rattle.kinds.specs.Kinds.{plan13, plan18, brief13, brief18}
use Rattle.dates.specs.Dates.{date_in}
use Rattle.force.specs.InForce.{field_at}
use Rattle.amending.specs.Amended.{dated_by, content_in}
use Rattle.amending.proofs.put_delayed.Goals.{After-aerodrome_of, After-date_word-date, Else-k-eq-PLAN_18}
use Rattle.amending.proofs.put_delayed.Goals as goal

-- what is written, at field 13, at field 18 and at others
retimed : (own : Word) (said : List ℕ) (k : ℕ) → k ≡ plan13 → take 4 own ++ drop 4 (field_at said brief13) ≡ content_in Delays own said k
retimed own said k e = rw (eq-eqb k 5 e)

redated : (own : Word) (said : List ℕ) (k : ℕ) → (k ≡ plan13 → ⊥) → k ≡ plan18 → dated_by (date_in (field_at said brief18)) own ≡ content_in Delays own said k
redated own said k n e = rw (ne_eqb k 5 n, eq-eqb k 8 e)

kept : (own : Word) (said : List ℕ) (k : ℕ) → (k ≡ plan13 → ⊥) → (k ≡ plan18 → ⊥) → own ≡ content_in Delays own said k
kept own said k n e = rw (ne_eqb k 5 n, ne_eqb k 8 e)

parts : (c : After-aerodrome_of) → c.aerodrome_of.result.now ++ c.behind_aerodrome-time.result.now
    ≡ content_in Delays c.args.own.now c.args.said.now c.args.k
parts c =
    ap₂ (λ (v w : Word). v ++ w) c.aerodrome_of.ensures (c.behind_aerodrome-time.ensures ∙ ap (drop 4) c.field.ensures)
    ∙ retimed c.args.own.now c.args.said.now c.args.k c.if-k-eq-PLAN_13.true

with_date_lem : (c : After-date_word-date) → dated_by c.date_word-date.result.now c.args.own.now
    ≡ content_in Delays c.args.own.now c.args.said.now c.args.k
with_date_lem c =
    ap (λ (d : Word). dated_by d c.args.own.now) (c.date_word-date.ensures ∙ ap date_in c.field-then-k-eq-PLAN_18.ensures)
    ∙ redated c.args.own.now c.args.said.now c.args.k c.if-k-eq-PLAN_13.false c.if-k-eq-PLAN_18.true

as_own : (c : Else-k-eq-PLAN_18) → c.args.own.now ≡ content_in Delays c.args.own.now c.args.said.now c.args.k
as_own c =
    kept c.args.own.now c.args.said.now c.args.k c.if-k-eq-PLAN_13.false c.if-k-eq-PLAN_18.false

pub put_two-requires : goal.put_two-requires
put_two-requires c =
    room_same c.args.out.now (sym (parts (goal.at.put_two-requires c).After-aerodrome_of)) c.requires

pub returns-then-k-eq-PLAN_13 : goal.returns-then-k-eq-PLAN_13
returns-then-k-eq-PLAN_13 c =
    put_same c.args.out.now (parts (goal.at.returns-then-k-eq-PLAN_13 c).After-aerodrome_of) c.put_two.ensures

pub put_date-requires : goal.put_date-requires
put_date-requires c =
    room_same c.args.out.now (sym (with_date_lem (goal.at.put_date-requires c).After-date_word-date)) c.requires

pub returns-then-k-eq-PLAN_18 : goal.returns-then-k-eq-PLAN_18
returns-then-k-eq-PLAN_18 c =
    put_same c.args.out.now (with_date_lem (goal.at.returns-then-k-eq-PLAN_18 c).After-date_word-date) c.put_date.ensures

pub put-requires : goal.put-requires
put-requires c =
    room_same c.args.out.now (sym (as_own (goal.at.put-requires c).Else-k-eq-PLAN_18)) c.requires

pub returns : goal.returns
returns c =
    put_same c.args.out.now (as_own (goal.at.returns c).Else-k-eq-PLAN_18) c.put.ensures
