-- `form_places::place_named` meets its contract. Assumes nothing.
use Rattle.form_places.proofs.Index.{the_last}
use Prim.Native.Nat.{ℕ}
use mathlib.Core.Path.{sym, ap, ◌∙◌}
use Rattle.form_places.specs.Places.{place_named}
use Rattle.form_places.proofs.place_named.Goals as goal

-- src/lib.rt:8:1
pub returns-in-1 : goal.returns-in-1
returns-in-1 c =
    let a = c.args in
    c.place_field7.ensures ∙ sym (ap (λ (k : ℕ). place_named k a.s.now) c.in-1.is)

-- src/lib.rt:8:1
pub returns-in-2 : goal.returns-in-2
returns-in-2 c =
    let a = c.args in
    c.place_field8.ensures ∙ sym (ap (λ (k : ℕ). place_named k a.s.now) c.in-2.is)

-- src/lib.rt:8:1
pub returns-in-3 : goal.returns-in-3
returns-in-3 c =
    let a = c.args in
    c.place_field9.ensures ∙ sym (ap (λ (k : ℕ). place_named k a.s.now) c.in-3.is)

-- src/lib.rt:8:1
pub returns-in-4 : goal.returns-in-4
returns-in-4 c =
    let a = c.args in
    c.place_field10.ensures ∙ sym (ap (λ (k : ℕ). place_named k a.s.now) c.in-4.is)

-- src/lib.rt:8:1
pub returns-in-5 : goal.returns-in-5
returns-in-5 c =
    let a = c.args in
    c.place_field13.ensures ∙ sym (ap (λ (k : ℕ). place_named k a.s.now) c.in-5.is)

-- src/lib.rt:8:1
pub returns-in-6 : goal.returns-in-6
returns-in-6 c =
    let a = c.args in
    c.place_field15.ensures ∙ sym (ap (λ (k : ℕ). place_named k a.s.now) c.in-6.is)

-- src/lib.rt:8:1
pub returns-in-7 : goal.returns-in-7
returns-in-7 c =
    let a = c.args in
    c.place_field16_plan.ensures ∙ sym (ap (λ (k : ℕ). place_named k a.s.now) c.in-7.is)

-- src/lib.rt:8:1
pub returns-in_default : goal.returns-in_default
returns-in_default c =
    let a = c.args in
    let h = c.requires in
    let r = c.in_default.in_default-own.rest in
    let z = the_last a.k h.0 h.1 r.0.0.0.0.0.0.1 r.0.0.0.0.0.1 r.0.0.0.0.1 r.0.0.0.1 r.0.0.1 r.0.1 r.1 in
    c.place_field18.ensures ∙ sym (ap (λ (k : ℕ). place_named k a.s.now) z)
