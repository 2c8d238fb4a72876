-- `amending::put_date` meets its contract. Assumes nothing.
use mathlib.Core.Path.{◌≡◌, sym, ap}
use mathlib.Core.Bool.{Bool, cond}
use lib.ListN.{length}
use Rattle.text.specs.Words.{Word}
use Rattle.canonical.proofs.Turns.{put_same, room_same}
use Rattle.dates.specs.Dates.{with_date}
use Rattle.amending.specs.Amended.{dated_by}
use Rattle.amending.proofs.Dated.{null_none, null_some}
use Rattle.amending.proofs.put_date.Goals as goal

-- what is written, with no date and with one
kept : (own date : Word) → length date ≡ 0 → own ≡ dated_by date own
kept own date e = sym (ap (λ (b : Bool). cond b own (with_date date own)) (null_none date e))

dated : (own date : Word) → (length date ≡ 0 → ⊥) → with_date date own ≡ dated_by date own
dated own date e = sym (ap (λ (b : Bool). cond b own (with_date date own)) (null_some date e))

pub put-requires : goal.put-requires
put-requires c =
    let a = c.args in
    room_same a.out.now (sym (kept a.own.now a.date.now c.if-date-eq0.true)) c.requires

pub returns-then-date-eq0 : goal.returns-then-date-eq0
returns-then-date-eq0 c =
    let a = c.args in
    put_same a.out.now (kept a.own.now a.date.now c.if-date-eq0.true) c.put.ensures

pub put_dated-requires : goal.put_dated-requires
put_dated-requires c =
    let a = c.args in
    room_same a.out.now (sym (dated a.own.now a.date.now c.if-date-eq0.false)) c.requires

pub returns : goal.returns
returns c =
    let a = c.args in
    put_same a.out.now (dated a.own.now a.date.now c.if-date-eq0.false) c.put_dated.ensures
