-- The place given for each form is the place of its content. Assumes nothing.
use Prim.Native.Nat.{ℕ}
use mathlib.Core.List.{List}
use Rattle.places.specs.Place.{IsPlace}
use Rattle.head_places.proofs.Number3.{placed3}
use Rattle.head_places.proofs.Places.{placed7, placed8, placed9}
use Rattle.equipment_places.proofs.Places.{placed10}
use Rattle.aerodromes_places.proofs.Landed.{placed17}
use Rattle.aerodromes_places.proofs.Places.{placed13, placed13open, placed16, placed16plan}
use Rattle.route_places.proofs.Places.{placed15}
use Rattle.other_places.proofs.Places.{placed18}
use Rattle.supplement_places.proofs.Places.{placed19}
use Rattle.kinds.specs.declared.Form.{Form}
use Rattle.kinds.specs.declared.Form.TheVariants.{Field3, Field7, Field8, Field9, Field10, Field13, Field13Open, Field15}
use Rattle.kinds.specs.declared.Form.TheVariants.{Field16, Field16Plan, Field17, Field18, Field19, Field22}
use Rattle.forms.specs.Forms.{field_of}
use Rattle.form_places.specs.Places.{place_in}
use Rattle.form_places.proofs.Entries.{placed22}

pub placed : (f : Form) (s : List ℕ) → IsPlace (field_of f).fits s (place_in f s)
placed Field3 s = placed3 s
placed Field7 s = placed7 s
placed Field8 s = placed8 s
placed Field9 s = placed9 s
placed Field10 s = placed10 s
placed Field13 s = placed13 s
placed Field13Open s = placed13open s
placed Field15 s = placed15 s
placed Field16 s = placed16 s
placed Field16Plan s = placed16plan s
placed Field17 s = placed17 s
placed Field18 s = placed18 s
placed Field19 s = placed19 s
placed Field22 s = placed22 s
