-- `form_places::place_in` meets its contract. Assumes nothing.
use mathlib.Core.Path.{sym, ap, ◌∙◌}
use Rattle.kinds.specs.declared.Form.{Form}
use Rattle.form_places.specs.Places.{place_in}
use Rattle.form_places.proofs.place_in.Goals as goal

-- src/lib.rt:40:1
pub returns-in-Field3 : goal.returns-in-Field3
returns-in-Field3 c =
    let s = c.args.s.now in
    c.place_field3.ensures ∙ sym (ap (λ (f : Form). place_in f s) c.in-Field3.is)

-- src/lib.rt:40:1
pub returns-in-Field7 : goal.returns-in-Field7
returns-in-Field7 c =
    let s = c.args.s.now in
    c.place_field7.ensures ∙ sym (ap (λ (f : Form). place_in f s) c.in-Field7.is)

-- src/lib.rt:40:1
pub returns-in-Field8 : goal.returns-in-Field8
returns-in-Field8 c =
    let s = c.args.s.now in
    c.place_field8.ensures ∙ sym (ap (λ (f : Form). place_in f s) c.in-Field8.is)

-- src/lib.rt:40:1
pub returns-in-Field9 : goal.returns-in-Field9
returns-in-Field9 c =
    let s = c.args.s.now in
    c.place_field9.ensures ∙ sym (ap (λ (f : Form). place_in f s) c.in-Field9.is)

-- src/lib.rt:40:1
pub returns-in-Field10 : goal.returns-in-Field10
returns-in-Field10 c =
    let s = c.args.s.now in
    c.place_field10.ensures ∙ sym (ap (λ (f : Form). place_in f s) c.in-Field10.is)

-- src/lib.rt:40:1
pub returns-in-Field13 : goal.returns-in-Field13
returns-in-Field13 c =
    let s = c.args.s.now in
    c.place_field13.ensures ∙ sym (ap (λ (f : Form). place_in f s) c.in-Field13.is)

-- src/lib.rt:40:1
pub returns-in-Field13Open : goal.returns-in-Field13Open
returns-in-Field13Open c =
    let s = c.args.s.now in
    c.place_field13-in-Field13Open.ensures ∙ sym (ap (λ (f : Form). place_in f s) c.in-Field13Open.is)

-- src/lib.rt:40:1
pub returns-in-Field15 : goal.returns-in-Field15
returns-in-Field15 c =
    let s = c.args.s.now in
    c.place_field15.ensures ∙ sym (ap (λ (f : Form). place_in f s) c.in-Field15.is)

-- src/lib.rt:40:1
pub returns-in-Field16 : goal.returns-in-Field16
returns-in-Field16 c =
    let s = c.args.s.now in
    c.place_field16.ensures ∙ sym (ap (λ (f : Form). place_in f s) c.in-Field16.is)

-- src/lib.rt:40:1
pub returns-in-Field16Plan : goal.returns-in-Field16Plan
returns-in-Field16Plan c =
    let s = c.args.s.now in
    c.place_field16_plan.ensures ∙ sym (ap (λ (f : Form). place_in f s) c.in-Field16Plan.is)

-- src/lib.rt:40:1
pub returns-in-Field17 : goal.returns-in-Field17
returns-in-Field17 c =
    let s = c.args.s.now in
    c.place_field17.ensures ∙ sym (ap (λ (f : Form). place_in f s) c.in-Field17.is)

-- src/lib.rt:40:1
pub returns-in-Field18 : goal.returns-in-Field18
returns-in-Field18 c =
    let s = c.args.s.now in
    c.place_field18.ensures ∙ sym (ap (λ (f : Form). place_in f s) c.in-Field18.is)

-- src/lib.rt:40:1
pub returns-in-Field19 : goal.returns-in-Field19
returns-in-Field19 c =
    let s = c.args.s.now in
    c.place_field19.ensures ∙ sym (ap (λ (f : Form). place_in f s) c.in-Field19.is)

-- src/lib.rt:40:1
pub returns-in-Field22 : goal.returns-in-Field22
returns-in-Field22 c =
    let s = c.args.s.now in
    c.place_entry.ensures ∙ sym (ap (λ (f : Form). place_in f s) c.in-Field22.is)
