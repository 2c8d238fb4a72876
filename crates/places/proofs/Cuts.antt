-- The place of a form that is cut at the first c. Assumes nothing.
use Prim.Native.Nat.{ℕ, suc, ◌+◌, ◌<◌, ◌≤◌}
use mathlib.Core.Path.{◌≡◌, refl, ap, subst}
use mathlib.Core.Bool.{Bool, true, false, ◌&&◌, ◌||◌, not, cond, and-true, and-false}
use mathlib.Core.List.{List, [], ◌∷◌}
use native.Mathlib.Omega.{arith}
use native.Mathlib.Nat.{add-suc, suc-add}
use lib.Dec.{eqb}
use lib.ListN.{length, take, drop, drop_of_length-le}
use lib.Seq.{drop-cons, take_all}
use borrow.Author.Tests.{eq-eqb, ltb-true, ltb-false}
use Rattle.text.specs.Words.{null, free, up_to, holds, before, behind, leading}
use Rattle.text.proofs.Tests.{both}
use Rattle.text.proofs.Index.{up_to-le, at_up_to}
use Rattle.places.specs.Place.{IsPlace}
use Rattle.places.specs.Parts.{then_fits, then_place, first_fits, first_place, cut_place}
use Rattle.places.proofs.Place.{place_of_language}
use Rattle.places.proofs.Parts.{stops, then_place_lem}
use Rattle.places.proofs.Leaves.{first_place_lem, maybe_place}

-- any byte but c, and c
abbrev pub but : ℕ → ℕ → Bool
but c b = not (eqb b c)

abbrev pub is : ℕ → ℕ → Bool
is c b = eqb b c

pub front_up_to : (c : ℕ) (s : List ℕ) → leading (but c) s ≡ up_to c s
front_up_to c [] = refl
front_up_to c (b ∷ s) = go (eqb b c) (front_up_to c s)
  where
    go : (x : Bool) → leading (but c) s ≡ up_to c s → cond (not x) (suc (leading (but c) s)) 0 ≡ cond x 0 (suc (up_to c s))
    go true e = refl
    go false e = ap suc e

drop_held : (c : ℕ) (s : List ℕ) → holds c s ≡ true → drop (up_to c s) s ≡ c ∷ behind c s
drop_held c s h =
    let l : up_to c s < length s = ltb-true (up_to c s) (length s) h in
    rw (drop-cons s (up_to c s) 0 l, at_up_to c s l)

not_held : (c : ℕ) (s : List ℕ) → holds c s ≡ false → up_to c s ≡ length s
not_held c s h = let l : length s ≤ up_to c s = ltb-false (up_to c s) (length s) h in let m = up_to-le c s in omega arith

module _ (c : ℕ) (f g : List ℕ → Bool) where
  -- c must be there, or may be absent
  abbrev pub must : List ℕ → Bool
  must = then_fits (but c) f (first_fits (is c) (λ b. g))

  abbrev pub may : List ℕ → Bool
  may = then_fits (but c) f (λ w. null w || first_fits (is c) (λ b. g) w)

  pub must_is : (s : List ℕ) → must s ≡ (holds c s && (f (before c s) && g (behind c s)))
  must_is s = rw (front_up_to c s) (go (holds c s) refl)
    where
      go : (x : Bool) → holds c s ≡ x → (f (before c s) && first_fits (is c) (λ b. g) (drop (up_to c s) s)) ≡ (x && (f (before c s) && g (behind c s)))
      go true h = rw (drop_held c s h, eq-eqb c c refl)
      go false h = rw (not_held c s h, drop_of_length-le s {i = length s} (omega arith)) (and-false (f (take (length s) s)))

  pub may_is : (s : List ℕ) → may s ≡ cond (holds c s) (f (before c s) && g (behind c s)) (f s)
  may_is s = rw (front_up_to c s) (go (holds c s) refl)
    where
      go : (x : Bool) → holds c s ≡ x
          → (f (before c s) && (null (drop (up_to c s) s) || first_fits (is c) (λ b. g) (drop (up_to c s) s))) ≡ cond x (f (before c s) && g (behind c s)) (f s)
      go true h = rw (drop_held c s h, eq-eqb c c refl)
      go false h =
          rw (not_held c s h, drop_of_length-le s {i = length s} (omega arith), take_all (length s) s (omega arith)) (and-true (f s))

  module _ (pf pg : List ℕ → ℕ)
      (f-right : (s : List ℕ) → IsPlace f s (pf s)) (g-right : (s : List ℕ) → IsPlace g s (pg s))
      (f-free : (w : List ℕ) → f w ≡ true → free c w ≡ true) (e : List ℕ) (ge : g e ≡ true) where
    place_is : (s : List ℕ) → then_place (but c) f pf (first_place (is c) (λ b. pg)) s ≡ cut_place c f pf pg s
    place_is s = rw (front_up_to c s) (go (holds c s) refl)
      where
        go : (x : Bool) → holds c s ≡ x
            → cond (x && f (before c s)) (up_to c s + first_place (is c) (λ b. pg) (drop (up_to c s) s)) (pf (before c s))
            ≡ cond (x && f (before c s)) (suc (up_to c s) + pg (behind c s)) (pf (before c s))
        go true h = rw (drop_held c s h, eq-eqb c c refl, add-suc, suc-add)
        go false h = refl

    inner : (s : List ℕ) → IsPlace (first_fits (is c) (λ b. g)) s (first_place (is c) (λ b. pg) s)
    inner = first_place_lem (is c) (λ b. g) (λ b. pg) (λ b h. g-right) (λ b h. (e, ge))

    first_stops : (w : List ℕ) → first_fits (is c) (λ b. g) w ≡ true → stops (but c) w ≡ true
    first_stops [] h = refl
    first_stops (b ∷ w) h = rw (both (eqb b c) (g w) h).0

    maybe_stops : (w : List ℕ) → (null w || first_fits (is c) (λ b. g) w) ≡ true → stops (but c) w ≡ true
    maybe_stops [] h = refl
    maybe_stops (b ∷ w) h = first_stops (b ∷ w) h

    -- THE PLACE OF A FORM CUT AT c
    pub cut_place_lem : (s : List ℕ) → IsPlace (λ t. holds c t && (f (before c t) && g (behind c t))) s (cut_place c f pf pg s)
    cut_place_lem s =
        place_of_language must (λ t. holds c t && (f (before c t) && g (behind c t))) must_is s (cut_place c f pf pg s)
        (subst (IsPlace must s) (place_is s)
        (then_place_lem (but c) f (first_fits (is c) (λ b. g)) pf (first_place (is c) (λ b. pg)) f-right inner f-free first_stops (c ∷ e)
        (rw (eq-eqb c c refl, ge)) s))

    -- where c and what stands behind it may be absent
    pub may_place : (s : List ℕ) → IsPlace (λ t. cond (holds c t) (f (before c t) && g (behind c t)) (f t)) s (cut_place c f pf pg s)
    may_place s =
        place_of_language may (λ t. cond (holds c t) (f (before c t) && g (behind c t)) (f t)) may_is s (cut_place c f pf pg s)
        (subst (IsPlace may s) (place_is s)
        (then_place_lem (but c) f (λ w. null w || first_fits (is c) (λ b. g) w) pf (first_place (is c) (λ b. pg)) f-right
        (λ w. maybe_place (first_fits (is c) (λ b. g)) w (first_place (is c) (λ b. pg) w) (inner w)) f-free maybe_stops [] refl s))
