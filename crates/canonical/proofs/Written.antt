-- What is written of a content: read again it is the canonical record, written again it is the same, it is no longer, and it tells
-- canonical records apart. Assumes nothing.
use Prim.Native.Nat.{ℕ, ◌≤◌}
use mathlib.Core.Path.{◌≡◌, refl, sym, ap, ◌∙◌}
use mathlib.Core.Bool.{Bool, true, false}
use mathlib.Core.List.{List}
use native.Mathlib.Omega.{arith}
use lib.ListN.{length}
use Rattle.shape.proofs.Fields.{read_some, fits_spelling, one_record}
use Rattle.supplement.specs.Field19.{Field19, valid19, spell19, fits19, record19}
use Rattle.canonical.specs.Canonical.{canonical19, field19, written19}
use Rattle.canonical.proofs.Canonical.{field19_laws}

pub written_fits : (s : List ℕ) → fits19 s ≡ true → written19 s ≡ spell19 (canonical19 (record19 s))
unfolding written19
written_fits s e = rw e

pub written_other : (s : List ℕ) → fits19 s ≡ false → written19 s ≡ s
unfolding written19
written_other s e = rw e

canonical_valid : (s : List ℕ) → fits19 s ≡ true → valid19 (canonical19 (record19 s)) ≡ true
canonical_valid s e = field19_laws.kept (record19 s) (fits_spelling field19 field19_laws s e).0

-- reading what is written gives the canonical record
pub written_read : (s : List ℕ) → fits19 s ≡ true → (fits19 (written19 s) ≡ true) × (record19 (written19 s) ≡ canonical19 (record19 s))
written_read s e =
    let r = canonical19 (record19 s) in
    let h = read_some field19 (spell19 r) r (field19_laws.complete r (canonical_valid s e)) in
    let w = written_fits s e in
    (ap fits19 w ∙ h.0, ap record19 w ∙ h.1)

-- writing it again changes nothing
pub written_settled : (s : List ℕ) → written19 (written19 s) ≡ written19 s
written_settled s = go (fits19 s) refl
  where
    go : (b : Bool) → fits19 s ≡ b → written19 (written19 s) ≡ written19 s
    go true e =
        let h = written_read s e in
        written_fits (written19 s) h.0 ∙ ap (λ (r : Field19). spell19 (canonical19 r)) h.1
        ∙ ap spell19 (field19_laws.settled (record19 s)) ∙ sym (written_fits s e)
    go false e = ap written19 (written_other s e)

-- it is no longer than the content
pub written_shorter : (s : List ℕ) → length (written19 s) ≤ length s
written_shorter s = go (fits19 s) refl
  where
    go : (b : Bool) → fits19 s ≡ b → length (written19 s) ≤ length s
    go true e =
        let h = fits_spelling field19 field19_laws s e in
        omega (arith, field19_laws.shorter (record19 s) h.0, ap length (written_fits s e), ap length h.1)
    go false e = omega (arith, ap length (written_other s e))

-- two contents have one canonical record exactly where one text is written of them
pub one_written : (s t : List ℕ) → fits19 s ≡ true → fits19 t ≡ true
    → (canonical19 (record19 s) ≡ canonical19 (record19 t) → written19 s ≡ written19 t)
    × (written19 s ≡ written19 t → canonical19 (record19 s) ≡ canonical19 (record19 t))
one_written s t e f = (
  λ q. written_fits s e ∙ ap spell19 q ∙ sym (written_fits t f),
  λ q. one_record field19 field19_laws (canonical19 (record19 s)) (canonical19 (record19 t)) (canonical_valid s e) (canonical_valid t f)
      (sym (written_fits s e) ∙ q ∙ written_fits t f),
)
