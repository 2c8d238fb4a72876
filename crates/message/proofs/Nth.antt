-- The content of field j, found hyphen by hyphen. Assumes nothing.
use Prim.Native.Nat.{ℕ, zero, suc, ◌+◌, ◌≤◌}
use mathlib.Core.Path.{◌≡◌, refl, sym, ap, ◌∙◌}
use mathlib.Core.Bool.{Bool, true, false}
use mathlib.Core.List.{List, [], ◌∷◌}
use native.Mathlib.Omega.{arith}
use native.Mathlib.Nat.{add-zero}
use native.Mathlib.Numerals.{add-one}
use lib.Dec.{ltb}
use lib.ListN.{length, drop, get_or}
use lib.Seq.{drop-nil, get_or-drop}
use borrow.Author.Tests.{ltb-true, ltb-false}
use Rattle.text.specs.Words.{Word, split, up_to, before, behind}
use Rattle.text.proofs.Index.{drop_end, split_cut, after_here, after_end}
use Rattle.space.specs.Hyphens.{behind_hyphen}

nothing_behind : (j : ℕ) → behind_hyphen j [] ≡ []
unfolding behind_hyphen
nothing_behind zero = refl
nothing_behind (suc j) = nothing_behind j

-- at the end of a text every further field is there
pub hyphen_end : (s u : List ℕ) (at left : ℕ) → length s ≤ at → behind_hyphen left (drop at s) ≡ u → drop at s ≡ u
hyphen_end s u at left h e =
    drop_end s at h ∙ sym (nothing_behind left) ∙ ap (behind_hyphen left) (sym (drop_end s at h)) ∙ e

-- whatever takes no fields and one empty field alike takes the fields from the j-th on as those that stand behind the j-th hyphen
module _ {A : Type 0} (G : List Word → A) (alike : G [] ≡ G ([] ∷ [])) where
  pub cut_at : (j : ℕ) (s : List ℕ) → G (drop j (split 45 s)) ≡ G (split 45 (behind_hyphen j s))
  unfolding behind_hyphen
  cut_at zero s = refl
  cut_at (suc j) s = go (cut_at j (behind 45 s)) (ltb (up_to 45 s) (length s)) refl
    where
      go : G (drop j (split 45 (behind 45 s))) ≡ G (split 45 (behind_hyphen j (behind 45 s)))
          → (b : Bool) → ltb (up_to 45 s) (length s) ≡ b → G (drop (suc j) (split 45 s)) ≡ G (split 45 (behind_hyphen j (behind 45 s)))
      go ih true p =
          let cut : split 45 s ≡ before 45 s ∷ split 45 (behind 45 s)
          = split_cut 45 s
          ∙ ap (λ (l : List Word). before 45 s ∷ l)
          (after_here 45 s (up_to 45 s) (ltb-true (up_to 45 s) (length s) p) ∙ ap (λ (k : ℕ). split 45 (drop k s)) (add-one (up_to 45 s))) in
          ap (λ (l : List Word). G (drop (suc j) l)) cut ∙ ih
      go ih false p =
          let far : length s ≤ up_to 45 s = ltb-false (up_to 45 s) (length s) p in
          let further : length s ≤ suc (up_to 45 s) = omega arith in
          let cut : split 45 s ≡ before 45 s ∷ []
          = split_cut 45 s ∙ ap (λ (l : List Word). before 45 s ∷ l) (after_end 45 s (up_to 45 s) far) in
          ap (λ (l : List Word). G (drop (suc j) l)) cut ∙ ap G (drop-nil {A = Word} j) ∙ alike
          ∙ ap (λ (t : List ℕ). G (split 45 t)) (sym (ap (behind_hyphen j) (drop_end s (suc (up_to 45 s)) further) ∙ nothing_behind j))

pub field_at_lem : (j : ℕ) (s : List ℕ) → get_or (split 45 s) j [] ≡ before 45 (behind_hyphen j s)
field_at_lem j s =
    ap (λ (i : ℕ). get_or (split 45 s) i []) (sym (add-zero j)) ∙ sym (get_or-drop j (split 45 s) 0 [])
    ∙ cut_at (λ (l : List Word). get_or l 0 []) refl j s
    ∙ ap (λ (l : List Word). get_or l 0 []) (split_cut 45 (behind_hyphen j s))

-- as a cursor's part: the cursor at field j
pub field_part : (j at : ℕ) (s w : List ℕ) → drop at s ≡ behind_hyphen j s → w ≡ before 45 (drop at s) → w ≡ get_or (split 45 s) j []
field_part j at s w d e = e ∙ ap (before 45) d ∙ sym (field_at_lem j s)

-- n fields behind field j begins field j + n
behind_both : (j n : ℕ) (s : List ℕ) → behind_hyphen n (behind_hyphen j s) ≡ behind_hyphen (j + n) s
unfolding behind_hyphen
behind_both zero n s = let z : n ≡ 0 + n = omega arith in ap (λ (k : ℕ). behind_hyphen k s) z
behind_both (suc j) n s = let z : suc (j + n) ≡ suc j + n = omega arith in behind_both j n (behind 45 s) ∙ ap (λ (k : ℕ). behind_hyphen k s) z

pub further : (j n : ℕ) (s : List ℕ) (at next : ℕ) → drop at s ≡ behind_hyphen j s → drop next s ≡ behind_hyphen n (drop at s)
    → drop next s ≡ behind_hyphen (j + n) s
further j n s at next d e = e ∙ ap (behind_hyphen n) d ∙ behind_both j n s
