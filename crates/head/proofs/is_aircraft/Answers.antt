-- `head::is_aircraft` meets its contract. Assumes nothing.
use mathlib.Core.Path.{sym, ◌∙◌}
use Rattle.text.proofs.Index.{found, found_none, found_before, found_behind, rest}
use Rattle.head.specs.Field9.{aircraft_fits}
use Rattle.head.proofs.is_aircraft.Goals as goal

pub returns-then-o-t : goal.returns-then-o-t
unfolding aircraft_fits
returns-then-o-t c =
    let a = c.args in rw (found_none 47 a.t.now _ c.find-o.ensures.value c.if-o-t.true)

pub returns-then-not-is_type : goal.returns-then-not-is_type
unfolding aircraft_fits
returns-then-not-is_type c =
    let t = c.args.t.now in
    let f = c.find-o.ensures in
    rw (found 47 t _ f.value c.if-o-t.false f.lower_bound.1, ← found_before 47 t _ f.value, sym c.is_type.ensures ∙ c.if-not-is_type.true)

pub returns : goal.returns
unfolding aircraft_fits
returns c =
    let t = c.args.t.now in
    let f = c.find-o.ensures in
    rw (
      found 47 t _ f.value c.if-o-t.false f.lower_bound.1,
      ← found_before 47 t _ f.value,
      sym c.is_type.ensures ∙ c.if-not-is_type.false,
      ← found_behind 47 t _ f.value,
    ) (rw rest at c.is_wake.ensures)
