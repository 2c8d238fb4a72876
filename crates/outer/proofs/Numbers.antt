-- Refusals that are equal have equal numbers, fields and places. Assumes nothing.
use Rattle.std.specs.Prelude.{◌≡◌, Result, Err}
use mathlib.Core.Path.{ap}
use Rattle.outer.specs.declared.Refusal.{Refusal}

pub refusal_same : {A : Type 0} (r q : Refusal) → ◌≡◌ {A = Result A Refusal} (Err r) (Err q) → (r.number ≡ q.number) × (r.field ≡ q.field) × (r.place ≡ q.place)
refusal_same r q e =
    let p : r ≡ q = cc in
    (ap (λ (x : Refusal). x.number) p, ap (λ (x : Refusal). x.field) p, ap (λ (x : Refusal). x.place) p)
