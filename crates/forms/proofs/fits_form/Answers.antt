-- `forms::fits_form` meets its contract. Assumes nothing.
use mathlib.Core.Path.{sym, ap, ◌∙◌}
use Rattle.kinds.specs.declared.Form.{Form}
use Rattle.forms.specs.Forms.{field_of}
use Rattle.forms.proofs.fits_form.Goals as goal

pub returns-in-Field3 : goal.returns-in-Field3
returns-in-Field3 c =
    let a = c.args in
    c.fits_field3.ensures ∙ sym (ap (λ (f : Form). (field_of f).fits a.s.now) c.in-Field3.is)

pub returns-in-Field7 : goal.returns-in-Field7
returns-in-Field7 c =
    let a = c.args in
    c.fits_field7.ensures ∙ sym (ap (λ (f : Form). (field_of f).fits a.s.now) c.in-Field7.is)

pub returns-in-Field8 : goal.returns-in-Field8
returns-in-Field8 c =
    let a = c.args in
    c.fits_field8.ensures ∙ sym (ap (λ (f : Form). (field_of f).fits a.s.now) c.in-Field8.is)

pub returns-in-Field9 : goal.returns-in-Field9
returns-in-Field9 c =
    let a = c.args in
    c.fits_field9.ensures ∙ sym (ap (λ (f : Form). (field_of f).fits a.s.now) c.in-Field9.is)

pub returns-in-Field10 : goal.returns-in-Field10
returns-in-Field10 c =
    let a = c.args in
    c.fits_field10.ensures ∙ sym (ap (λ (f : Form). (field_of f).fits a.s.now) c.in-Field10.is)

pub returns-in-Field13 : goal.returns-in-Field13
returns-in-Field13 c =
    let a = c.args in
    c.fits_field13.ensures ∙ sym (ap (λ (f : Form). (field_of f).fits a.s.now) c.in-Field13.is)

pub returns-in-Field13Open : goal.returns-in-Field13Open
returns-in-Field13Open c =
    let a = c.args in
    c.fits_field13_open.ensures ∙ sym (ap (λ (f : Form). (field_of f).fits a.s.now) c.in-Field13Open.is)

pub returns-in-Field15 : goal.returns-in-Field15
returns-in-Field15 c =
    let a = c.args in
    c.fits_field15.ensures ∙ sym (ap (λ (f : Form). (field_of f).fits a.s.now) c.in-Field15.is)

pub returns-in-Field16 : goal.returns-in-Field16
returns-in-Field16 c =
    let a = c.args in
    c.fits_field16.ensures ∙ sym (ap (λ (f : Form). (field_of f).fits a.s.now) c.in-Field16.is)

pub returns-in-Field16Plan : goal.returns-in-Field16Plan
returns-in-Field16Plan c =
    let a = c.args in
    c.fits_field16_plan.ensures ∙ sym (ap (λ (f : Form). (field_of f).fits a.s.now) c.in-Field16Plan.is)

pub returns-in-Field17 : goal.returns-in-Field17
returns-in-Field17 c =
    let a = c.args in
    c.fits_field17.ensures ∙ sym (ap (λ (f : Form). (field_of f).fits a.s.now) c.in-Field17.is)

pub returns-in-Field18 : goal.returns-in-Field18
returns-in-Field18 c =
    let a = c.args in
    c.fits_field18.ensures ∙ sym (ap (λ (f : Form). (field_of f).fits a.s.now) c.in-Field18.is)

pub returns-in-Field19 : goal.returns-in-Field19
returns-in-Field19 c =
    let a = c.args in
    c.fits_field19.ensures ∙ sym (ap (λ (f : Form). (field_of f).fits a.s.now) c.in-Field19.is)

pub returns-in-Field22 : goal.returns-in-Field22
returns-in-Field22 c =
    let a = c.args in
    c.fits_entry.ensures ∙ sym (ap (λ (f : Form). (field_of f).fits a.s.now) c.in-Field22.is)
