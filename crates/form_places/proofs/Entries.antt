-- An entry of field 22 is one of eight labels with a content whose form goes by the label, and so has their place. Assumes nothing.
use Prim.Native.Nat.{ℕ, zero, suc, ◌+◌, ◌<◌, ◌≤◌}
use mathlib.Core.Path.{◌≡◌, refl, sym, ap, ap₂, subst, ◌∙◌}
use mathlib.Core.Bool.{Bool, true, false, ◌&&◌, ◌||◌, cond, or-true, false≢true}
use mathlib.Core.List.{List, [], ◌∷◌}
use native.Mathlib.Omega.{arith}
use lib.Dec.{ltb, eqb}
use lib.ListN.{length}
use lib.Seq.{length-take-le}
use borrow.Author.Tests.{lt-ltb, ltb-true, ltb-false, eqb-true, eqb-false}
use Rattle.alphabet.specs.Text.{bytes}
use Rattle.text.specs.Words.{Word, holds, up_to, before, behind, same, rank}
use Rattle.text.proofs.Tests.{both, and_both, and_false, same-eq, same_self}
use Rattle.text.proofs.Index.{up_to-le}
use Rattle.shape.specs.Shape.{letters}
use Rattle.shape.specs.Time.{time_fits}
use Rattle.places.specs.Place.{IsPlace}
use Rattle.places.specs.Parts.{larger}
use Rattle.places.proofs.Given.{iff}
use Rattle.places.proofs.Larger.{larger_one, larger_second, larger_under}
use Rattle.places.proofs.Place.{place_of_language}
use Rattle.entries.specs.Entries.{Entry, entry_fits, any_entry, matched, any_of, entry_place, entries_place}
use Rattle.entries.proofs.Entries.{AllRight, none_left, and_then, label_place_lem, entries_place_lem}
use Rattle.head.specs.Field7.{fits7}
use Rattle.head.specs.Field8.{fits8}
use Rattle.head.specs.Field9.{fits9, count_fits, aircraft_fits}
use Rattle.equipment.specs.Field10.{fits10, valid10, present}
use Rattle.aerodromes.specs.Aerodromes.{four_letters, joined}
use Rattle.aerodromes.specs.Field16.{fits16plan}
use Rattle.route.specs.Levels.{speeds, levels, starts}
use Rattle.route.specs.Points.{within, radial_fits, indicators, name_fits, point_fits}
use Rattle.route.specs.Field15.{pair_fits, element_fits, fits15}
use Rattle.other.specs.Field18.{fits_in}
use Rattle.head_places.proofs.Places.{placed7, placed8, placed9}
use Rattle.equipment_places.proofs.Places.{placed10}
use Rattle.aerodromes_places.proofs.Places.{placed13, placed16entry}
use Rattle.route_places.proofs.Places.{placed15}
use Rattle.other_places.proofs.Places.{placed18}
use Rattle.forms.specs.Field22.{labels, label_of, field_named, which_of, fits22}
use Rattle.forms.proofs.Labels.{label_ranked, ranked_label, rank_most}
use Rattle.forms.proofs.Field22.{fitting}
use Rattle.form_places.specs.Places.{place_named, place22}

-- AN ENTRY OF A RANK from 1 to 8 is one of field 22's

abbrev entry_named : ℕ → Entry
entry_named n = record { label = label_of n; fits = (field_named n).fits; place = place_named n }

entry_fits_lem : (n : ℕ) → 1 ≤ n → n ≤ 8 → (s : List ℕ) → entry_fits (entry_named n) s ≡ true → fits22 s ≡ true
unfolding fits22
entry_fits_lem n l m s e =
    let a = both (holds 47 s) _ e in
    let b = both (same (label_of n) (before 47 s)) _ a.1 in
    let w : which_of s ≡ n = ap (λ (v : Word). rank v labels) (sym (same-eq (label_of n) (before 47 s) b.0)) ∙ (label_ranked n l m).0 in
    and_both (holds 47 s) _ a.0 (rw w (and_both (ltb 0 n) _ (lt-ltb 0 n l) b.1))

named_fits : (s : List ℕ) → fits22 s ≡ true → (n : ℕ) → n ≡ which_of s → entry_fits (entry_named n) s ≡ true
named_fits s e n w =
    let f = fitting s e in
    let k = (ranked_label (before 47 s) f.some).spelt in
    let z : label_of n ≡ before 47 s = ap label_of w ∙ k in
    and_both (holds 47 s) _ f.cut
    (and_both (same (label_of n) (before 47 s)) _ (ap (λ (v : Word). same v (before 47 s)) z ∙ same_self (before 47 s))
    (ap (λ (m : ℕ). (field_named m).fits (behind 47 s)) w ∙ f.rest))

-- THE ENTRIES of m ranks from k on

abbrev from : ℕ → ℕ → List Entry
from k zero = []
from k (suc m) = entry_named k ∷ from (suc k) m

abbrev entries_named : List Entry
entries_named = from 1 8

abbrev labels_from : ℕ → ℕ → List Word
labels_from k zero = []
labels_from k (suc m) = label_of k ∷ labels_from (suc k) m

labels_are : labels_from 1 8 ≡ labels
unfolding labels
labels_are = refl

any_fits : (m k : ℕ) → 1 ≤ k → k + m ≤ 9 → (s : List ℕ) → any_entry (from k m) s ≡ true → fits22 s ≡ true
any_fits zero k l h s e = absurd (false≢true e)
any_fits (suc m) k l h s e = go (any_fits m (suc k) (omega arith) (omega arith) s) (entry_fits (entry_named k) s) refl e
  where
    go : (any_entry (from (suc k) m) s ≡ true → fits22 s ≡ true)
        → (x : Bool) → entry_fits (entry_named k) s ≡ x → (x || any_entry (from (suc k) m) s) ≡ true → fits22 s ≡ true
    go ih true q f = entry_fits_lem k l (omega arith) s q
    go ih false q f = ih f

fits_any : (m k n : ℕ) → k ≤ n → n < k + m → (s : List ℕ) → entry_fits (entry_named n) s ≡ true → any_entry (from k m) s ≡ true
fits_any zero k n l h s e = absurd (omega arith)
fits_any (suc m) k n l h s e = go (λ g. fits_any m (suc k) n g (omega arith) s e) (ltb k n) refl
  where
    go : (suc k ≤ n → any_entry (from (suc k) m) s ≡ true) → (x : Bool) → ltb k n ≡ x → (entry_fits (entry_named k) s || any_entry (from (suc k) m) s) ≡ true
    go ih true q = rw (ih (ltb-true k n q)) (or-true (entry_fits (entry_named k) s))
    go ih false q =
        let g : n ≤ k = ltb-false k n q in
        let z : n ≡ k = omega arith in
        rw (ap (λ (j : ℕ). entry_fits (entry_named j) s) (sym z) ∙ e)

entries_are : (s : List ℕ) → any_entry entries_named s ≡ fits22 s
entries_are s =
    iff (any_entry entries_named s) (fits22 s) (λ e. any_fits 8 1 (omega arith) (omega arith) s e)
    (λ e.
    let f = fitting s e in
    fits_any 8 1 (which_of s) f.some (let h = rank_most (before 47 s) in omega arith) s (named_fits s e (which_of s) refl))

-- EACH OF THE EIGHT has its place, a content that fits, and no oblique in its number

all_right : AllRight entries_named
unfolding labels letters fits7 fits8 fits9 count_fits aircraft_fits fits10 valid10 present four_letters joined time_fits fits16plan fits15 starts speeds levels
    element_fits pair_fits within radial_fits indicators name_fits point_fits fits_in
all_right =
    and_then (record { right = placed7; one = (bytes "AB", refl); plain = refl })
    (and_then (record { right = placed8; one = (bytes "IS", refl); plain = refl })
    (and_then (record { right = placed9; one = (bytes "B707/M", refl); plain = refl })
    (and_then (record { right = placed10; one = (bytes "N/N", refl); plain = refl })
    (and_then (record { right = placed13; one = (bytes "EHAM0930", refl); plain = refl })
    (and_then (record { right = placed15; one = (bytes "N0440F310 DCT", refl); plain = refl })
    (and_then (record { right = placed16entry; one = (bytes "EDDF0100", refl); plain = refl })
    (and_then (record { right = placed18; one = (bytes "0", refl); plain = refl })
    none_left)))))))

-- THE PLACE: in the number's own entry where there is one, and else how far the bytes follow a number

module _ (s : List ℕ) where
  abbrev place_as : ℕ → ℕ
  place_as n = entry_place (entry_named n) s

  -- the number before the oblique is another
  other_label : (n : ℕ) → 1 ≤ n → n ≤ 8 → (which_of s ≡ n → ⊥) → same (label_of n) (before 47 s) ≡ false
  other_label n l m h = go (same (label_of n) (before 47 s)) refl
    where
      go : (x : Bool) → same (label_of n) (before 47 s) ≡ x → x ≡ false
      go true e = absurd (h (ap (λ (v : Word). rank v labels) (sym (same-eq (label_of n) (before 47 s) e)) ∙ (label_ranked n l m).0))
      go false e = refl

  as_matched : (n : ℕ) → (holds 47 s && same (label_of n) (before 47 s)) ≡ false → place_as n ≡ matched (label_of n) (before 47 s)
  as_matched n e = rw e

  no_label : (n : ℕ) → 1 ≤ n → n ≤ 8 → (holds 47 s && ltb 0 (which_of s)) ≡ false → place_as n ≡ matched (label_of n) (before 47 s)
  no_label n l m e = as_matched n (go (holds 47 s) e)
    where
      go : (x : Bool) → (x && ltb 0 (which_of s)) ≡ false → (x && same (label_of n) (before 47 s)) ≡ false
      go true h = other_label n l m (λ w. let z : which_of s ≤ 0 = ltb-false 0 (which_of s) h in omega arith)
      go false h = refl

  -- the largest of some, none of which is larger than one of them
  module _ (n v : ℕ) (here : place_as n ≡ v) (most : (j : ℕ) → 1 ≤ j → j ≤ 8 → place_as j ≤ v) where
    under : (m k : ℕ) → 1 ≤ k → k + m ≤ 9 → entries_place (from k m) s ≤ v
    under zero k l h = omega arith
    under (suc m) k l h = larger_under (place_as k) (entries_place (from (suc k) m) s) v (most k l (omega arith)) (under m (suc k) (omega arith) (omega arith))

    top : (m k : ℕ) → 1 ≤ k → k + m ≤ 9 → k ≤ n → n < k + m → entries_place (from k m) s ≡ v
    top zero k l h a b = absurd (omega arith)
    top (suc m) k l h a b = go (λ g. top m (suc k) (omega arith) (omega arith) g (omega arith)) (ltb k n) refl
      where
        go : (suc k ≤ n → entries_place (from (suc k) m) s ≡ v) → (x : Bool) → ltb k n ≡ x → larger (place_as k) (entries_place (from (suc k) m) s) ≡ v
        go ih true q = rw (ih (ltb-true k n q)) (larger_second (place_as k) v (most k l (omega arith)))
        go ih false q =
            let g : n ≤ k = ltb-false k n q in
            let z : k ≡ n = omega arith in
            rw (ap place_as z ∙ here) (larger_one v (entries_place (from (suc k) m) s) (under m (suc k) (omega arith) (omega arith)))

  -- no number stands before the oblique
  follow : (holds 47 s && ltb 0 (which_of s)) ≡ false → (m k : ℕ) → 1 ≤ k → k + m ≤ 9 → entries_place (from k m) s ≡ any_of (labels_from k m) (before 47 s)
  follow e zero k l h = refl
  follow e (suc m) k l h = ap₂ larger (no_label k l (omega arith) e) (follow e m (suc k) (omega arith) (omega arith))

  -- the number of rank n does
  module _ (n : ℕ) (which : which_of s ≡ n) (some : 0 < n) (cut : holds 47 s ≡ true) where
    abbrev there : ℕ
    there = suc (up_to 47 s) + place_named n (behind 47 s)

    spelt : label_of n ≡ before 47 s
    spelt = ap label_of (sym which) ∙ (ranked_label (before 47 s) (omega arith)).spelt

    here : place_as n ≡ there
    here = rw (and_both (holds 47 s) _ cut (ap (λ (v : Word). same v (before 47 s)) spelt ∙ same_self (before 47 s)))

    short : length (before 47 s) ≤ up_to 47 s
    short = let l = length-take-le (up_to 47 s) s (up_to-le 47 s) in omega arith

    most : (j : ℕ) → 1 ≤ j → j ≤ 8 → place_as j ≤ there
    most j l m = go (eqb n j) refl
      where
        go : (x : Bool) → eqb n j ≡ x → place_as j ≤ there
        go true q = let z : place_as j ≡ there = ap place_as (sym (eqb-true n j q)) ∙ here in omega arith
        go false q =
            let z = as_matched j (and_false (holds 47 s) _ (other_label j l m (λ w. eqb-false n j q (sym which ∙ w)))) in
            let i = (label_place_lem (label_of j) (before 47 s)).within in
            omega (arith, short)

    found : entries_place entries_named s ≡ there
    found = let m = rank_most (before 47 s) in top n there here most 8 1 (omega arith) (omega arith) some (omega arith)

place_is : (s : List ℕ) → entries_place entries_named s ≡ place22 s
unfolding place22
place_is s = go (holds 47 s && ltb 0 (which_of s)) refl
  where
    go : (x : Bool) → (holds 47 s && ltb 0 (which_of s)) ≡ x
        → entries_place entries_named s ≡ cond x (suc (up_to 47 s) + place_named (which_of s) (behind 47 s)) (any_of labels (before 47 s))
    go true e = let h = both (holds 47 s) (ltb 0 (which_of s)) e in found s (which_of s) refl (ltb-true 0 (which_of s) h.1) h.0
    go false e = follow s e 8 1 (omega arith) (omega arith) ∙ ap (λ (vs : List Word). any_of vs (before 47 s)) labels_are

-- THE PLACE OF AN ENTRY
pub placed22 : (s : List ℕ) → IsPlace fits22 s (place22 s)
placed22 s =
    subst (IsPlace fits22 s) (place_is s)
    (place_of_language (any_entry entries_named) fits22 entries_are s (entries_place entries_named s) (entries_place_lem entries_named all_right s))
