-- `forms::fits_named` meets its contract. Assumes nothing.
use Rattle.forms.proofs.Index.{from_four, from_eight}
use Prim.Native.Nat.{ℕ}
use mathlib.Core.Path.{sym, ap, ◌∙◌}
use mathlib.Core.Bool.{◌&&◌}
use lib.Dec.{ltb}
use Rattle.forms.specs.Field22.{field_named}
use Rattle.forms.proofs.Index.{last_fits}
use Rattle.forms.proofs.fits_named.Goals as goal

pub returns-in-0 : goal.returns-in-0
returns-in-0 c =
    sym (ap (λ (k : ℕ). ltb 0 k && (field_named k).fits c.args.s.now) c.in-0.is)

pub returns-in-1 : goal.returns-in-1
returns-in-1 c =
    let a = c.args in
    c.fits_field7.ensures ∙ sym (ap (λ (k : ℕ). ltb 0 k && (field_named k).fits a.s.now) c.in-1.is)

pub returns-in-2 : goal.returns-in-2
returns-in-2 c =
    let a = c.args in
    c.fits_field8.ensures ∙ sym (ap (λ (k : ℕ). ltb 0 k && (field_named k).fits a.s.now) c.in-2.is)

pub returns-in-3 : goal.returns-in-3
returns-in-3 c =
    let a = c.args in
    c.fits_field9.ensures ∙ sym (ap (λ (k : ℕ). ltb 0 k && (field_named k).fits a.s.now) c.in-3.is)

pub returns-in-4 : goal.returns-in-4
returns-in-4 c =
    let a = c.args in
    c.fits_field10.ensures ∙ sym (ap (λ (k : ℕ). ltb 0 k && (field_named k).fits a.s.now) c.in-4.is)

pub returns-in-5 : goal.returns-in-5
returns-in-5 c =
    let a = c.args in
    c.fits_field13.ensures ∙ sym (ap (λ (k : ℕ). ltb 0 k && (field_named k).fits a.s.now) c.in-5.is)

pub returns-in-6 : goal.returns-in-6
returns-in-6 c =
    let a = c.args in
    c.fits_field15.ensures ∙ sym (ap (λ (k : ℕ). ltb 0 k && (field_named k).fits a.s.now) c.in-6.is)

pub returns-in-7 : goal.returns-in-7
returns-in-7 c =
    let a = c.args in
    c.fits_field16_entry.ensures ∙ sym (ap (λ (k : ℕ). ltb 0 k && (field_named k).fits a.s.now) c.in-7.is)

pub returns-in_default : goal.returns-in_default
returns-in_default c =
    let k = c.args.k in
    let r = c.in_default.in_default-own.rest in
    let four = from_four k r.0.0.0.0.0.0.0.1 r.0.0.0.0.0.0.1 r.0.0.0.0.0.1 r.0.0.0.0.1 in
    c.fits_field18.ensures ∙ last_fits k c.args.s.now (from_eight k four r.0.0.0.1 r.0.0.1 r.0.1 r.1)
