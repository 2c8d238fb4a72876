-- The place of an entry is right, where the places behind its labels are. Assumes nothing.
use Prim.Native.Nat.{ℕ, zero, suc, ◌<◌}
use mathlib.Core.Path.{◌≡◌, refl, sym, ap, ◌∙◌}
use mathlib.Core.Bool.{Bool, true, false, ◌||◌, cond}
use mathlib.Core.List.{List, [], ◌∷◌, ◌++◌}
use native.Mathlib.Omega.{arith}
use native.Mathlib.Nat.{not-suc-le-zero, le_of_suc-le-suc}
use lib.Dec.{eqb}
use lib.ListN.{take}
use Rattle.text.specs.Words.{Word, same, elem, free}
use Rattle.text.proofs.Tests.{and_both, and_false, same_self, same-eq}
use Rattle.places.specs.Place.{IsPlace, Hopeful}
use Rattle.places.proofs.Given.{iff, or_cond}
use Rattle.places.proofs.Place.{place_of_language, no_place, either_place}
use Rattle.places.proofs.Cuts.{cut_place_lem}
use Rattle.entries.specs.Entries.{Entry, entry_fits, any_entry, matched, any_of, entry_place, entries_place}

-- a label
pub label_place_lem : (l s : List ℕ) → IsPlace (same l) s (matched l s)
label_place_lem [] [] = record { within = omega arith; before = λ k h. absurd (not-suc-le-zero h); there = λ h. absurd (not-suc-le-zero h) }
label_place_lem [] (b ∷ s) = record { within = omega arith; before = λ k h. absurd (not-suc-le-zero h); there = λ h t. refl }
label_place_lem (x ∷ l) [] = record { within = omega arith; before = λ k h. absurd (not-suc-le-zero h); there = λ h. absurd (not-suc-le-zero h) }
label_place_lem (x ∷ l) (b ∷ s) = go (eqb x b) refl (label_place_lem l s)
  where
    here : eqb x b ≡ true → IsPlace (same l) s (matched l s) → (k : ℕ) → k < suc (matched l s) → Hopeful (same (x ∷ l)) (b ∷ s) k
    here q ih zero h = (l, and_both (eqb x b) (same l l) q (same_self l))
    here q ih (suc k) h = let t = ih.before k (le_of_suc-le-suc h) in (t.0, and_both (eqb x b) (same l (take (suc k) s ++ t.0)) q t.1)

    go : (c : Bool) → eqb x b ≡ c → IsPlace (same l) s (matched l s) → IsPlace (same (x ∷ l)) (b ∷ s) (cond c (suc (matched l s)) 0)
    go true q ih =
        record {
          within = let w = ih.within in omega arith;
          before = here q ih;
          there = λ h t. and_false (eqb x b) (same l (take (suc (matched l s)) s ++ t)) (ih.there (le_of_suc-le-suc h) t);
        }
    go false q ih = record { within = omega arith; before = λ k h. absurd (not-suc-le-zero h); there = λ h t. rw q }

pub same_swap : (v w : Word) → same v w ≡ same w v
same_swap v w = iff (same v w) (same w v) (λ e. ap (same w) (same-eq v w e) ∙ same_self w) (λ e. ap (same v) (same-eq w v e) ∙ same_self v)

-- one of some words
pub any_label_place : (vs : List Word) (s : List ℕ) → IsPlace (λ w. elem w vs) s (any_of vs s)
any_label_place [] s = no_place s
any_label_place (v ∷ vs) s =
    place_of_language (λ w. same v w || elem w vs) (λ w. elem w (v ∷ vs)) (λ w. rw (same_swap v w) (or_cond (same w v) (elem w vs))) s (any_of (v ∷ vs) s)
    (either_place (same v) (λ w. elem w vs) s (matched v s) (any_of vs s) (label_place_lem v s) (any_label_place vs s))

-- what an entry has to give
pub record Right (e : Entry) : Type 0 where
  pub right : (s : List ℕ) → IsPlace e.fits s (e.place s)
  pub one : (t : List ℕ) × (e.fits t ≡ true)
  pub plain : free 47 e.label ≡ true

pub data AllRight : List Entry → Type 0 where
  none_left : AllRight []
  and_then : {e : Entry} {es : List Entry} → Right e → AllRight es → AllRight (e ∷ es)

entry_place_lem : (e : Entry) → Right e → (s : List ℕ) → IsPlace (entry_fits e) s (entry_place e s)
entry_place_lem e r =
    cut_place_lem 47 (same e.label) e.fits (matched e.label) e.place (label_place_lem e.label) r.right
    (λ w h. ap (free 47) (sym (same-eq e.label w h)) ∙ r.plain) r.one.0 r.one.1

-- THE PLACE OF AN ENTRY
pub entries_place_lem : (es : List Entry) → AllRight es → (s : List ℕ) → IsPlace (any_entry es) s (entries_place es s)
entries_place_lem [] none_left s = no_place s
entries_place_lem (e ∷ es) (and_then r rs) s =
    either_place (entry_fits e) (any_entry es) s (entry_place e s) (entries_place es s) (entry_place_lem e r s) (entries_place_lem es rs s)
