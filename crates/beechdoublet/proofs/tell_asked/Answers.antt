-- `beechdoublet::tell_asked` meets its contract. Assumes nothing.
use Prim.Native.Nat.{ℕ}
use mathlib.Core.Path.{◌≡◌, refl, ◌∙◌}
use Rattle.std.specs.Prelude.{Ok}
use Rattle.asked.specs.declared.Place.{Place}
use Rattle.asked.specs.declared.Place.TheVariants.{InStrip, InChange}
use Rattle.beechdoublet.specs.Numbers.{asked_number, asked_numbers, asked_whole}
use Rattle.beechdoublet.proofs.tell_asked.Goals as goal

-- where the field stands, it is told as it is
told_whole : (asked : ℕ) (p : Place) → (0 ≡ asked_number (Ok p)) × (asked_numbers (Ok p) ≡ asked_numbers (asked_whole asked (Ok p)))
told_whole asked (InStrip from to) = (refl, refl)
told_whole asked (InChange from to) = (refl, refl)

pub returns-in-Ok : goal.returns-in-Ok
returns-in-Ok c =
    let e = c.in-Ok.is in
    let w = told_whole c.args.asked c.in-Ok.place in
    (rw e w.0, rw e (c.place_numbers.ensures ∙ w.1))

pub returns-in-Err : goal.returns-in-Err
returns-in-Err c =
    let e = c.in-Err.is in (rw e, rw (e, c.field_told-told.ensures))
