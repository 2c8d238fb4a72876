-- Contents of field 18 that fit and items that fit are one another's. Assumes nothing.
use Prim.Native.Nat.{ℕ}
use mathlib.Core.Path.{◌≡◌, refl, sym, ap, ◌∙◌}
use mathlib.Core.Bool.{Bool, true, false, cond, not}
use mathlib.Core.List.{List, [], ◌∷◌, map}
use native.Mathlib.Omega.{arith}
use borrow.Author.Tests.{not-true}
use Rattle.alphabet.specs.Text.{bytes}
use Rattle.text.specs.Words.{split, join, null, same}
use Rattle.text.proofs.Tests.{both, same-eq}
use Rattle.shape.proofs.Fields.{read_some, fits_spelling, spelling_fits}
use Rattle.other.specs.Rules.{base}
use Rattle.other.specs.Field18.{Worded, Field18, nothing, items, worded, spelt, spell18, group, items_fit, valid18, item_of}
use Rattle.other.specs.Field18.{fits_in, record18, field18, fits18, items_of}
use Rattle.other.proofs.Items.{null-map, items_valid_lem, items_spelled}
use Rattle.other.proofs.Field18.{field18_laws}
use Rattle.other.proofs.ByKey.{standing_fit}

-- the items of a content, and the content of items
abbrev pub standing : List ℕ → List Worded
standing s = (group (split 32 s)).grouped

abbrev pub written : List Worded → List ℕ
written is = cond (null is) (bytes "0") (join 32 (spelt is))

pub written_some : (is : List Worded) → null is ≡ false → written is ≡ join 32 (spelt is)
written_some is e = rw e

pub written_standing : (s : List ℕ) → fits18 s ≡ true → written (standing s) ≡ s
unfolding record18
written_standing s e = go (same s (bytes "0")) refl (fits_spelling field18 field18_laws s e)
  where
    go : (b : Bool) → same s (bytes "0") ≡ b
        → (valid18 base (cond b nothing (items (map (item_of base) (standing s)))) ≡ true)
        × (spell18 (cond b nothing (items (map (item_of base) (standing s)))) ≡ s)
        → written (standing s) ≡ s
    go true p h = let z = same-eq s (bytes "0") p in ap (λ (t : List ℕ). written (standing t)) z ∙ sym z
    go false p h =
        written_some (standing s)
        (sym (null-map (item_of base) (standing s))
        ∙ not-true (null (map (item_of base) (standing s))) (both (not (null (map (item_of base) (standing s)))) _ h.0).0)
        ∙ ap (λ (is : List Worded). join 32 (spelt is)) (sym (items_spelled base 0 (standing s) (standing_fit s e))) ∙ h.1

-- of items that fit
module _ (i : Worded) (is : List Worded) (e : items_fit base 0 (i ∷ is) ≡ true) where
  abbrev as_record : Field18
  as_record = items (map (item_of base) (i ∷ is))

  valid : valid18 base as_record ≡ true
  valid = items_valid_lem base 0 (i ∷ is) e

  spelled : spell18 as_record ≡ written (i ∷ is)
  spelled = ap (λ (js : List Worded). join 32 (spelt js)) (items_spelled base 0 (i ∷ is) e)

  some_fit_lem : fits18 (written (i ∷ is)) ≡ true
  some_fit_lem = ap fits18 (sym spelled) ∙ spelling_fits field18 field18_laws as_record valid

  abbrev t : List ℕ
  t = written (i ∷ is)

  some_back : standing (written (i ∷ is)) ≡ i ∷ is
  unfolding record18
  some_back =
      sym (items_spelled base 0 (standing t) (standing_fit t some_fit_lem)) ∙ ap (map worded) (go (same t (bytes "0")) back) ∙ items_spelled base 0 (i ∷ is) e
    where
      back : record18 base t ≡ as_record
      back = ap (record18 base) (sym spelled) ∙ (read_some field18 (spell18 as_record) as_record (field18_laws.complete as_record valid)).1

      go : (b : Bool) → cond b nothing (items (map (item_of base) (standing t))) ≡ as_record → map (item_of base) (standing t) ≡ map (item_of base) (i ∷ is)
      go true q = let z : ◌≡◌ {A = ℕ} 0 1 = cc in absurd (omega arith)
      go false q = ap items_of q

pub written_fits : (is : List Worded) → items_fit base 0 is ≡ true → fits18 (written is) ≡ true
unfolding fits_in
written_fits [] e = refl
written_fits (i ∷ is) e = some_fit_lem i is e

pub standing_written : (is : List Worded) → items_fit base 0 is ≡ true → standing (written is) ≡ is
standing_written [] e = refl
standing_written (i ∷ is) e = some_back i is e

-- and where nothing is written for none
pub standing_joined : (is : List Worded) → items_fit base 0 is ≡ true → standing (join 32 (spelt is)) ≡ is
standing_joined [] e = refl
standing_joined (i ∷ is) e = some_back i is e
