-- Items as they stand and items of the record: what the elements' laws say of them. Assumes nothing.
use Prim.Native.Nat.{ℕ}
use mathlib.Core.Path.{◌≡◌, refl, ap₂}
use mathlib.Core.Bool.{Bool, true, not}
use mathlib.Core.List.{List, [], ◌∷◌, map}
use lib.Dec.{ltb}
use Rattle.text.specs.Words.{all, null}
use Rattle.text.proofs.Tests.{both, and_both}
use Rattle.other.specs.declared.Rule.{Rule}
use Rattle.other.specs.Rules.{Edition18, rank_in, rule_under, single, behind_first, word_fits}
use Rattle.other.specs.Elements.{spell_element, valid_element, element_of}
use Rattle.other.specs.Field18.{Keyed, Item, Worded, worded, items_by, items_fit, items_valid, item_of}
use Rattle.other.proofs.Elements.{word_spelled, word_valid, element_fits_lem, element_back}

pub null-map : {A B : Type 0} (f : A → B) (xs : List A) → null (map f xs) ≡ null xs
null-map f [] = refl
null-map f (x ∷ xs) = refl

-- WHAT EACH RULE MAKES OF THE PARTS OF AN ITEM

module _ {A B : Type 0} (ed : Edition18) (f : Rule → A → B) where
  abbrev under_rule : Keyed A → Keyed B
  under_rule i =
      record {
        key = i.key;
        first = f (rule_under ed i.key) i.first;
        more = map (f (rule_under ed i.key)) i.more;
      }

  module _ (p : Rule → A → Bool) (q : Rule → B → Bool) (law : (r : Rule) (x : A) → p r x ≡ true → q r (f r x) ≡ true) where
    more_by : (r : Rule) (xs : List A) → all (behind_first p r) xs ≡ true → all (behind_first q r) (map (f r) xs) ≡ true
    more_by r [] e = refl
    more_by r (x ∷ xs) e =
        let h = both (behind_first p r x) (all (behind_first p r) xs) e in
        let g = both (not (single r)) (p r x) h.0 in
        and_both (behind_first q r (f r x)) _ (and_both (not (single r)) (q r (f r x)) g.0 (law r x g.1)) (more_by r xs h.1)

    items_by_lem : (last : ℕ) (is : List (Keyed A)) → items_by p ed last is ≡ true → items_by q ed last (map under_rule is) ≡ true
    items_by_lem last [] e = refl
    items_by_lem last (i ∷ is) e =
        let a = both (ltb last (rank_in ed i.key)) _ e in
        let b = both (p (rule_under ed i.key) i.first) _ a.1 in
        let c = both (all (behind_first p (rule_under ed i.key)) i.more) _ b.1 in
        and_both (ltb last (rank_in ed i.key)) _ a.0
        (and_both (q (rule_under ed i.key) (f (rule_under ed i.key) i.first)) _ (law (rule_under ed i.key) i.first b.0)
        (and_both (all (behind_first q (rule_under ed i.key)) (map (f (rule_under ed i.key)) i.more)) _
        (more_by (rule_under ed i.key) i.more c.0)
        (items_by_lem (rank_in ed i.key) is c.1)))

module _ {A B : Type 0} (ed : Edition18) (f : Rule → A → B) (g : Rule → B → A)
    (p : Rule → A → Bool) (law : (r : Rule) (x : A) → p r x ≡ true → g r (f r x) ≡ x) where
  more_back : (r : Rule) (xs : List A) → all (behind_first p r) xs ≡ true → map (g r) (map (f r) xs) ≡ xs
  more_back r [] e = refl
  more_back r (x ∷ xs) e =
      let h = both (behind_first p r x) (all (behind_first p r) xs) e in
      ap₂ (λ (y : A) (ys : List A). y ∷ ys) (law r x (both (not (single r)) (p r x) h.0).1) (more_back r xs h.1)

  items_back : (last : ℕ) (is : List (Keyed A)) → items_by p ed last is ≡ true → map (under_rule ed g) (map (under_rule ed f) is) ≡ is
  items_back last [] e = refl
  items_back last (i ∷ is) e =
      let r = rule_under ed i.key in
      let a = both (ltb last (rank_in ed i.key)) _ e in
      let b = both (p r i.first) _ a.1 in
      let c = both (all (behind_first p r) i.more) _ b.1 in
      let one : under_rule ed g (under_rule ed f i) ≡ i
      = ap₂ (λ (x : A) (xs : List A). record { key = i.key; first = x; more = xs }) (law r i.first b.0) (more_back r i.more c.0) in
      ap₂ (λ (j : Keyed A) (js : List (Keyed A)). j ∷ js) one (items_back (rank_in ed i.key) is c.1)

-- AS THEY STAND, AND OF THE RECORD

module _ (ed : Edition18) (last : ℕ) where
  pub items_valid_lem : (is : List Worded) → items_fit ed last is ≡ true → items_valid ed last (map (item_of ed) is) ≡ true
  items_valid_lem = items_by_lem ed element_of word_fits valid_element word_valid last

  pub items_spelled : (is : List Worded) → items_fit ed last is ≡ true → map worded (map (item_of ed) is) ≡ is
  items_spelled = items_back ed element_of (λ r. spell_element) word_fits word_spelled last

  pub worded_fit : (is : List Item) → items_valid ed last is ≡ true → items_fit ed last (map worded is) ≡ true
  worded_fit = items_by_lem ed (λ r. spell_element) valid_element word_fits element_fits_lem last

  pub worded_back : (is : List Item) → items_valid ed last is ≡ true → map (item_of ed) (map worded is) ≡ is
  worded_back = items_back ed (λ r. spell_element) element_of valid_element element_back last
